use Rattle.std.proofs.Common.{◌∙◌, ap, Err}
use Rattle.token_forms.specs.TextTokens.{plain_tokens}
use Rattle.token_forms.proofs.BadTokenLaws.{left_within, plain_bad_token_is}
use Rattle.pcap_keys.specs.Plans.{plan}
use Rattle.pcap_keys.proofs.PlansLaws.{plan_unrefused, plan_refused}
use Rattle.pcap_keys.proofs.plan.bad_token.Goals as goal

pub plain_bad_token_before-requires : goal.plain_bad_token_before-requires
plain_bad_token_before-requires c =
    left_within {f = plan c.args.schema.now} (plain_tokens c.args.text.now) _ _ c.whole.new.reader
    (plan_refused c.args.schema.now _ c.args.text.now _ c.whole.result c.whole.new.reader c.as_slice.ensures c.plain-reader.ensures c.whole.ensures _ _ (c.in-Err-Bad.is ∙ ap Err c.in-Err-Bad.field-0-is))

pub returns-in-Ok : goal.returns-in-Ok
returns-in-Ok c = plan_unrefused c.args.schema.now _ c.args.text.now _ c.whole.result _ c.as_slice.ensures c.plain-reader.ensures c.whole.ensures _ c.in-Ok.is

pub returns-in-Err-Bad : goal.returns-in-Err-Bad
returns-in-Err-Bad c =
    plain_bad_token_is {f = plan c.args.schema.now} c.args.text.now _ _ c.whole.new.reader _
    (plan_refused c.args.schema.now _ c.args.text.now _ c.whole.result c.whole.new.reader c.as_slice.ensures c.plain-reader.ensures c.whole.ensures _ _ (c.in-Err-Bad.is ∙ ap Err c.in-Err-Bad.field-0-is)) c.plain_bad_token_before.ensures
