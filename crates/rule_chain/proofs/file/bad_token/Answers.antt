use Rattle.std.proofs.Common.{◌∙◌, ap, Err}
use Rattle.token_forms.specs.TextTokens.{plain_tokens}
use Rattle.token_forms.proofs.BadTokenLaws.{left_within, plain_bad_token_is}
use Rattle.rule_chain.specs.Rules.{rules_file}
use Rattle.rule_chain.proofs.FileLaws.{rules_unrefused, rules_refused}
use Rattle.rule_chain.proofs.file.bad_token.Goals as goal

pub plain_bad_token_before-requires : goal.plain_bad_token_before-requires
plain_bad_token_before-requires c =
    left_within {f = rules_file c.args.schema.now} (plain_tokens c.args.text.now) _ _ c.whole.new.reader
    (rules_refused c.args.schema.now _ c.args.text.now _ _ c.whole.result c.whole.new.reader c.as_slice.ensures c.plain-reader.ensures c.whole.ensures _ _ (c.in-Err-Bad.is ∙ ap Err c.in-Err-Bad.field-0-is))

pub returns-in-Ok : goal.returns-in-Ok
returns-in-Ok c = rules_unrefused c.args.schema.now _ c.args.text.now _ _ c.whole.result _ c.as_slice.ensures c.plain-reader.ensures c.whole.ensures _ c.in-Ok.is

pub returns-in-Err-Bad : goal.returns-in-Err-Bad
returns-in-Err-Bad c =
    plain_bad_token_is {f = rules_file c.args.schema.now} c.args.text.now _ _ c.whole.new.reader _
    (rules_refused c.args.schema.now _ c.args.text.now _ _ c.whole.result c.whole.new.reader c.as_slice.ensures c.plain-reader.ensures c.whole.ensures _ _ (c.in-Err-Bad.is ∙ ap Err c.in-Err-Bad.field-0-is)) c.plain_bad_token_before.ensures
