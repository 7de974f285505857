use Rattle.std.proofs.Common.{◌≡◌, take}
use Rattle.element_lines.specs.Additions.{all_of}
use Rattle.element_lines.proofs.steps.steps_of.Given as goal

-- the steps of the sections so far
abbrev pub invariant-sections : goal.invariant-sections
invariant-sections l = l.all ≡ all_of (take l.steps-index l.steps-items)
