use Rattle.std.proofs.Common.{◌≡◌, ◌∙◌, ap, subst, ℕ, List, length, map, take}
use Rattle.fault_notes.specs.declared.refused.RefusedChange.{RefusedChange}
use Rattle.fault_notes.specs.Refusals.{IsRefusalsNote}
use Rattle.script_laws.specs.declared.refusals.Refusal.{Refusal}
use Rattle.script_laws.proofs.RunLaws.{ok-as}
use Rattle.top_call.specs.Refused.{change_of, most_told}
use Rattle.top_call.proofs.refusals.changes_note.Goals as goal

pub returns : goal.returns
returns c =
    let refusals = c.args.output.now.refusals.items in
    let given : c.as_slice-refusals.result.now ≡ refusals = c.as_slice-refusals.ensures.value in
    let first : c.as_slice.result.now ≡ map change_of (take most_told refusals) = c.as_slice.ensures.value ∙ c.in_ok-first.ensures ∙ ap (λ (rs : List Refusal). map change_of (take most_told rs)) given in
    let count : length c.as_slice-refusals.result.now ≡ length refusals = ap length given in
    ok-as c.refusals_note.result
    (λ note is. subst (λ (z : List RefusedChange × ℕ). IsRefusalsNote c.args.name.now z.0 z.1 c.args.output.now.failed note.bytes.items) (λ i. (first i, count i)) is)
    c.refusals_note.ensures
