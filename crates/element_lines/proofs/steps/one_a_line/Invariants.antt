use Rattle.std.proofs.Common.{◌≡◌, take}
use Rattle.element_lines.specs.Additions.{one_a_line}
use Rattle.element_lines.proofs.steps.one_a_line.Given as goal

-- the steps so far have their lines
abbrev pub invariant-steps : goal.invariant-steps
invariant-steps l = l.apart ≡ one_a_line (take l.step-index l.step-items)
