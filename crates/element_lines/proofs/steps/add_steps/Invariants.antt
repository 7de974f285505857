use Rattle.std.proofs.Common.{◌≡◌, ◌++◌, take}
use Rattle.element_lines.proofs.steps.add_steps.Given as goal

-- the steps so far are added
abbrev pub invariant-steps : goal.invariant-steps
invariant-steps l = l.all ≡ l.initial.all ++ take l.step-index l.step-items
