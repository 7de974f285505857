use Rattle.std.proofs.Common.{◌≡◌, ◌∙◌, ◌++◌, ◌||◌, ap, sym, filter, List}
use Rattle.std.specs.List.{list_any}
use Rattle.set_model.specs.declared.report.Event.{Event}
use Rattle.set_model.specs.Control.{is_refusal}
use Rattle.script_laws.specs.declared.refusals.Refusal.{Refusal}
use Rattle.script_laws.specs.Reports.{refusals_in}
use Rattle.explain_answer.proofs.whole.output_of.Goals as goal

pub returns-clause-refusals : goal.returns-clause-refusals
returns-clause-refusals c =
    c.in_ok-add_refusals.ensures ∙ ap (λ (rs : List Refusal). rs ++ refusals_in 0 c.as_slice-events.result.now) c.new-output.ensures.refusals ∙ ap (refusals_in 0) c.as_slice-events.ensures
