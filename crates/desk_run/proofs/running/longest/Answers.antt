use Rattle.std.proofs.Common.{◌∙◌, ◌≤◌, List, All, length, subst, arith}
use Rattle.std.proofs.lemmas.List.{take_all}
use Rattle.set_model.specs.declared.script.Step.{Step}
use Rattle.desk_run.proofs.Opening.{one_more}
use Rattle.desk_run.proofs.running.longest.Goals as goal

pub loop-steps-preserved : goal.loop-steps-preserved
loop-steps-preserved c = let most = c.max-most.ensures in let size = c.len.ensures in
    one_more c.as_slice-steps-items.result.now c.loop-steps.steps-index c.loop-steps.most c.max-most.result c.steps-item.result c.loop-steps-test.true c.steps-item.is c.loop-steps.invariant (omega (arith, most)) (omega (arith, most, size))

pub returns : goal.returns
returns c = let over = c.loop-steps-test.false in
    subst (All (λ (s : List Step). length s ≤ c.loop-steps.most)) (take_all c.loop-steps.steps-index c.as_slice-steps-items.result.now (omega (arith, over)) ∙ c.as_slice-steps-items.ensures) c.loop-steps.invariant
