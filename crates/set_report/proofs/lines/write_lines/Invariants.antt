use Rattle.std.proofs.Common.{◌≡◌, ◌++◌, take}
use Rattle.set_model.specs.Text.{lines_text}
use Rattle.set_report.proofs.lines.write_lines.Given as goal

-- the lines so far are appended
abbrev pub invariant-loop-line : goal.invariant-loop-line
invariant-loop-line l = l.out.items ≡ l.initial.out.items ++ lines_text (take l.line-index l.line-items)
