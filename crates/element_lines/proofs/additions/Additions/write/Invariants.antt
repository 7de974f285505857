use Rattle.std.proofs.Common.{◌≡◌, ◌++◌, take}
use Rattle.element_lines.specs.ElementLines.{noted_lines}
use Rattle.element_lines.proofs.additions.Additions.write.Given as goal

-- the lines so far are appended
abbrev pub invariant-lines : goal.invariant-lines
invariant-lines l = l.out.items ≡ l.initial.out.items ++ noted_lines l.self (take l.line-index l.line-items)
