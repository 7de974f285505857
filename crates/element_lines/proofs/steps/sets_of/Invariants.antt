use Rattle.std.proofs.Common.{◌≡◌, take}
use Rattle.element_lines.specs.Additions.{sets_of}
use Rattle.element_lines.proofs.steps.sets_of.Given as goal

-- the sets of the packets of the sections so far
abbrev pub invariant-sections : goal.invariant-sections
invariant-sections l = l.sets.items ≡ sets_of (take l.packets-index l.packets-items)
