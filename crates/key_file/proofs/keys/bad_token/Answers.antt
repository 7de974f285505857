use Rattle.std.proofs.Common.{◌∙◌, ap, Err}
use Rattle.token_forms.specs.TextTokens.{text_tokens}
use Rattle.token_forms.proofs.BadTokenLaws.{left_within, bad_token_is}
use Rattle.key_file.specs.Keys.{key_file}
use Rattle.key_file.proofs.KeysLaws.{keys_unrefused, keys_refused}
use Rattle.key_file.proofs.keys.bad_token.Goals as goal

pub bad_token_before-requires : goal.bad_token_before-requires
bad_token_before-requires c =
    left_within {f = key_file c.args.schema.now} (text_tokens c.args.text.now) _ _ c.whole.new.reader
    (keys_refused c.args.schema.now _ c.args.text.now _ c.whole.result c.whole.new.reader c.as_slice.ensures c.new-reader.ensures c.whole.ensures _ _ (c.in-Err-Bad.is ∙ ap Err c.in-Err-Bad.field-0-is))

pub returns-in-Ok : goal.returns-in-Ok
returns-in-Ok c = keys_unrefused c.args.schema.now _ c.args.text.now _ c.whole.result _ c.as_slice.ensures c.new-reader.ensures c.whole.ensures _ c.in-Ok.is

pub returns-in-Err-Bad : goal.returns-in-Err-Bad
returns-in-Err-Bad c =
    bad_token_is {f = key_file c.args.schema.now} c.args.text.now _ _ c.whole.new.reader _
    (keys_refused c.args.schema.now _ c.args.text.now _ c.whole.result c.whole.new.reader c.as_slice.ensures c.new-reader.ensures c.whole.ensures _ _ (c.in-Err-Bad.is ∙ ap Err c.in-Err-Bad.field-0-is)) c.bad_token_before.ensures
