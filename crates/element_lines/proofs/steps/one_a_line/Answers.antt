use Rattle.std.proofs.Common.{◌∙◌, ◌++◌, ◌∷◌, [], ap}
use Rattle.element_lines.proofs.StepLaws.{apart-more}
use Rattle.element_lines.proofs.steps.one_a_line.Goals as goal

pub steps-preserved : goal.steps-preserved
steps-preserved c =
    apart-more c.as_slice-step-items.result.now c.steps.step-index c.len-line.result c.step-item.result c.steps.apart c.push.new.self c.steps-test.true c.step-item.is c.steps.invariant c.len-line.ensures
    (c.in_ok-push.ensures.ok ∙ ap (λ s. c.steps.apart ++ s ∷ []) c.in_ok-on_line.ensures)
