use Rattle.std.proofs.Common.{refl, ap, Err}
use Rattle.token_forms.specs.TextTokens.{plain_tokens}
use Rattle.pcap_keys.specs.Plans.{plan as plan_form}
use Rattle.input_files.specs.declared.fault.Flaw.TheVariants as flaws
use Rattle.input_files.specs.Inputs.{plan}
use Rattle.input_files.specs.Seen.{ruleset_names, seen}
use Rattle.input_files.proofs.Reading.{bad-cause}
use Rattle.token_notes.specs.declared.help.TextKind.TheVariants as kinds
use Rattle.input_files.proofs.Telling.{bad-note}
use Rattle.fault_notes.proofs.ToldLaws.{may_tell}
use Rattle.input_files.proofs.files.plan_of.Goals as goal

pub returns-in-Err-clause-cause : goal.returns-in-Err-clause-cause
returns-in-Err-clause-cause g c = c.in-Err.ensures.cause c.args.schema.now (record { name = c.args.name.now; form = plan }) refl

pub returns-in-Err-Bad-clause-cause : goal.returns-in-Err-Bad-clause-cause
returns-in-Err-Bad-clause-cause g c =
    bad-cause (seen (ruleset_names c.args.rulesets) (g.F.Shelf.told c.args.shelf.now)) (g.F.Shelf.asked c.args.shelf.now) (g.F.Shelf.asked c.text_of.new.shelf) (g.F.Shelf.faults c.args.shelf.now) (g.F.Shelf.faults c.text_of.new.shelf) c.args.schema.now (record { name = c.args.name.now; form = plan })
    (flaws.Plan c.in-Err-Bad.line c.in-Err-Bad.reason) c.in-Ok.text.items c.as_slice-bytes.result.now c.in-Ok.ensures.quiet refl c.in-Ok.ensures.bytes c.in-Ok.ensures.limit c.as_slice-bytes.ensures.value
    (c.in-Err-Bad.ensures.bad c.in-Err-Bad.line c.in-Err-Bad.reason (ap Err c.in-Err-Bad.field-0-is))

pub returns-in-Err-clause-noted : goal.returns-in-Err-clause-noted
returns-in-Err-clause-noted g c = c.in-Err.ensures.noted c.args.schema.now

pub returns-in-Err-Bad-clause-noted : goal.returns-in-Err-Bad-clause-noted
returns-in-Err-Bad-clause-noted g c =
    bad-note kinds.Plan (plan_form c.args.schema.now) plain_tokens (seen (ruleset_names c.args.rulesets) (g.F.Shelf.told c.args.shelf.now)) c.args.name.now c.in-Ok.text.items c.as_slice-bytes.result.now c.bad_token-found.result _ _ _ c.in-Ok.ensures.bytes c.as_slice-bytes.ensures.value (search c.bad_token-found.ensures) c.in-Ok.ensures.silent (may_tell c.tell_bad.ensures)
