use Rattle.std.proofs.Common.{◌≡◌, ◌++◌, take}
use Rattle.rule_chain.specs.JudgedText.{judged_text}
use Rattle.rule_chain.proofs.lines.write_judged.Given as goal

-- the lines so far are appended
abbrev pub invariant-loop-line : goal.invariant-loop-line
invariant-loop-line l = l.out.items ≡ l.initial.out.items ++ judged_text l.chains (take l.line-index l.line-items)
