use Rattle.std.proofs.Common.{ap, Err, refl}
use Rattle.std.specs.List.{list_any}
use Rattle.input_files.specs.declared.work.Work.TheVariants as works
use Rattle.ruleset_sets.specs.RulesetText.{leaves_out}
use Rattle.command_words.specs.WordForms.{plain}
use Rattle.token_notes.specs.Shown.{Begins, name_text}
use Rattle.input_files.specs.Seen.{ruleset_names, seen}
use Rattle.top_call.specs.declared.fault.Fault.TheVariants as faults
use Rattle.top_call.specs.Forms.{counts_left_out}
use Rattle.top_call.proofs.FormLaws.{in-noted, in-refused, in-fault, same-uncounted}
use Rattle.top_call.proofs.Noting.{changes-may, error-told, skips-of, told-may}
use Rattle.top_call.proofs.Outputs.{are-refused, is-output}
use Rattle.top_call.proofs.Goings.{goes-output, goes-sets, goes-file, goes-too-many, goes-unanswered, goes-untested, many-sections, no-key}
use Rattle.top_call.proofs.UnmetLines.{tells-unmet}
use Rattle.top_call.proofs.command.do_command.Goals as goal

pub returns-in-Ok-output_of : goal.returns-in-Ok-output_of
returns-in-Ok-output_of g c words is_command =
    let out = c.in-Ok-output_of.output in
    in-noted c.args.forms.scripts _ (plain c.args.command) (ruleset_names c.rulesets_of-rulesets.result) _ _ c.deliver-status.result is_command c.rulesets_of-rulesets.ensures c.in-Ok.ensures.skips c.with_left_out.ensures (
    goes-output _ (plain c.args.command) is_command c.in-Ok.ensures.all out.refused out.text.items
    (is-output c.args.forms.answer (seen (ruleset_names c.rulesets_of-rulesets.result) (g.F.Shelf.told c.args.shelf.now)) (plain c.args.command) c.in-Ok.work out.refused out.text.items c.in-Ok.ensures.work c.in-Ok-output_of.ensures.text)
    (rw (c.done_status.ensures, c.as_slice-in-Ok-output_of.ensures.value) at c.deliver-status.ensures)
    out.refusals.items out.failed (are-refused (seen (ruleset_names c.rulesets_of-rulesets.result) (g.F.Shelf.told c.args.shelf.now)) (plain c.args.command) c.in-Ok.work out c.in-Ok.ensures.work c.in-Ok-output_of.ensures.refusals)
    _ (tells-unmet (seen (ruleset_names c.rulesets_of-rulesets.result) (g.F.Shelf.told c.args.shelf.now)) (plain c.args.command) c.in-Ok.work _ _ c.in-Ok.ensures.work c.in-Ok.ensures.doable c.in-Ok-tell_unmet.ensures.told)
    (changes-may (plain c.args.command) out _ _ c.tell_refusals.result c.tell_refusals.ensures))

pub returns-in-Some : goal.returns-in-Some
returns-in-Some g c words is_command =
    let over = c.in-Some.ensures.some in
    in-refused c.args.forms.scripts _ (plain c.args.command) (ruleset_names c.rulesets_of-rulesets.result) _ _ (faults.TooManyClerks c.in-Some.name) _ is_command c.rulesets_of-rulesets.ensures c.in-Ok.ensures.skips c.tell.ensures (
    goes-too-many _ (plain c.args.command) is_command c.in-Some.name (many-sections words _ (plain c.args.command) c.in-Ok.work c.in-Some.name is_command c.in-Ok.ensures.all c.in-Ok.ensures.work over) _ (tells-unmet (seen (ruleset_names c.rulesets_of-rulesets.result) (g.F.Shelf.told c.args.shelf.now)) (plain c.args.command) c.in-Ok.work _ _ c.in-Ok.ensures.work c.in-Ok.ensures.doable c.in-Ok-tell_unmet.ensures.told)
    (told-may c.tell_too_many.result (Begins (name_text c.in-Some.name.now)) _ _ c.tell_too_many.ensures.told c.tell_too_many.ensures.kept) c.tell.ensures)

pub returns-in-Ok-tell_unmet : goal.returns-in-Ok-tell_unmet
returns-in-Ok-tell_unmet g c words is_command =
    in-refused c.args.forms.scripts _ (plain c.args.command) (ruleset_names c.rulesets_of-rulesets.result) _ _ c.answer_fault.result _ is_command c.rulesets_of-rulesets.ensures c.in-Ok.ensures.skips c.tell-in-Err-output_of.ensures (
    goes-unanswered _ (plain c.args.command) is_command c.in-Ok.ensures.all c.in-Err-output_of.error
    (λ line reason bad schema e. no-key words _ (plain c.args.command) c.in-Ok.work line reason is_command c.in-Ok.ensures.all c.in-Ok.ensures.work (c.in-Err-output_of.ensures.bad line reason bad schema (ap Err e)))
    c.answer_fault.result c.answer_fault.ensures _ (tells-unmet (seen (ruleset_names c.rulesets_of-rulesets.result) (g.F.Shelf.told c.args.shelf.now)) (plain c.args.command) c.in-Ok.work _ _ c.in-Ok.ensures.work c.in-Ok.ensures.doable c.in-Ok-tell_unmet.ensures.told) (error-told c.in-Err-output_of.error c.tell_error.ensures) c.tell-in-Err-output_of.ensures)

pub returns : goal.returns
returns g c words is_command =
    in-fault c.args.forms.scripts _ (plain c.args.command) (ruleset_names c.rulesets_of-rulesets.result) (faults.File c.in-Err.fault) _ is_command c.rulesets_of-rulesets.ensures c.tell-in-Err.ensures (
    goes-file _ (plain c.args.command) c.in-Err.fault is_command c.in-Err.ensures.stops c.tell-in-Err.ensures)

pub returns-in-Ok-Sets : goal.returns-in-Ok-Sets
returns-in-Ok-Sets g c words is_command =
    let file = c.in-Ok-Sets.file in
    let whole = c.in-Ok-Sets.whole in
    let sieved = c.in-Ok-Sets.sieved in
    let told = seen (ruleset_names c.rulesets_of-rulesets.result) (g.F.Shelf.told c.args.shelf.now) in
    let left_out = list_any (λ s. leaves_out s.why) sieved.skips in
    let is_work = rw c.in-Ok-Sets.field-0-is at c.in-Ok-Sets.ensures.work in
    in-noted c.args.forms.scripts _ (plain c.args.command) (ruleset_names c.rulesets_of-rulesets.result) _ _ c.deliver_sets.result is_command c.rulesets_of-rulesets.ensures c.in-Ok-Sets.ensures.skips (same-uncounted (plain c.args.command) _ c.deliver_sets.result (ap counts_left_out is_work.0)) (
    goes-sets _ (plain c.args.command) file.now is_work.0 is_command c.in-Ok-Sets.ensures.all left_out sieved.text.items
    (is-output c.args.forms.answer told (plain c.args.command) (works.Sets file whole sieved) left_out sieved.text.items is_work (refl, refl))
    c.deliver_sets.ensures.ends
    (skips-of told file.now whole.items c.as_slice.result.now sieved.text.items sieved.skips _ _ c.as_slice.ensures.value is_work.1 c.deliver_sets.ensures.tells))

pub returns-in-Ok : goal.returns-in-Ok
returns-in-Ok g c words is_command =
    in-refused c.args.forms.scripts _ (plain c.args.command) (ruleset_names c.rulesets_of-rulesets.result) _ _ faults.Memory _ is_command c.rulesets_of-rulesets.ensures c.in-Ok.ensures.skips c.tell-in-Err-tell_unmet.ensures (
    goes-untested _ (plain c.args.command) is_command c.in-Ok.ensures.all c.in-Err-tell_unmet.ensures.kept c.tell-in-Err-tell_unmet.ensures)
