use Rattle.std.proofs.Common.{◌≡◌, map, take}
use Rattle.control_desk.proofs.logged_steps.LoggedSteps.of.Given as goal

-- the steps so far
abbrev pub invariant-loop-step : goal.invariant-loop-step
invariant-loop-step l = map (λ x. x.value) l.logged.items ≡ take l.step-index l.steps
