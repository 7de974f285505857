use Rattle.std.proofs.Common.{◌∙◌, ◌++◌, ◌∷◌, [], ap, List}
use Rattle.set_model.specs.declared.script.Step.{Step}
use Rattle.element_lines.proofs.StepLaws.{apart-runnable}
use Rattle.element_lines.proofs.additions.places_in.Goals as goal

pub trace_script-requires-clause-script : goal.trace_script-requires-clause-script
trace_script-requires-clause-script c κs =
    apart-runnable c.args.schema.now c.in_ok-copy.field-0 c.args.steps.now c.push.new.self c.in_ok-copy.ensures
    (c.in_ok-push.ensures.ok ∙ ap (λ (z : List (List Step)). z ++ c.in_ok-one_a_line.field-0 ∷ []) c.new-sections.ensures ∙ ap (λ (z : List Step). z ∷ []) c.in_ok-one_a_line.ensures) c.requires
