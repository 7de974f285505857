use Rattle.std.proofs.Common.{◌∙◌, ap, Err}
use Rattle.token_forms.specs.TextTokens.{text_tokens}
use Rattle.token_forms.proofs.BadTokenLaws.{left_within, bad_token_is}
use Rattle.set_script.specs.Script.{script}
use Rattle.set_script.proofs.ScriptWhole.{script_unrefused, script_refused}
use Rattle.set_script.proofs.script.bad_token.Goals as goal

pub bad_token_before-requires : goal.bad_token_before-requires
bad_token_before-requires c =
    left_within {f = script} (text_tokens c.args.text.now) _ _ c.whole.new.reader (script_refused c.args.text.now _ c.whole.result c.whole.new.reader c.new-reader.ensures c.whole.ensures _ _ (c.in-Err-Bad.is ∙ ap Err c.in-Err-Bad.field-0-is))

pub returns-in-Ok : goal.returns-in-Ok
returns-in-Ok c = script_unrefused c.args.text.now _ c.whole.result _ c.new-reader.ensures c.whole.ensures _ c.in-Ok.is

pub returns-in-Err-Bad : goal.returns-in-Err-Bad
returns-in-Err-Bad c =
    bad_token_is {f = script} c.args.text.now _ _ c.whole.new.reader _ (script_refused c.args.text.now _ c.whole.result c.whole.new.reader c.new-reader.ensures c.whole.ensures _ _ (c.in-Err-Bad.is ∙ ap Err c.in-Err-Bad.field-0-is)) c.bad_token_before.ensures
