use Rattle.std.proofs.Common.{◌≡◌, ℕ, [], length, map}
use Rattle.key_answer.specs.Origin.{lines_of}
use Rattle.key_answer.proofs.lines.Lines.new.Given as goal

-- so many sets have no lines yet
abbrev pub invariant-sets : goal.invariant-sets
invariant-sets l = record {
  one_each : length l.sets.items ≡ l._set;
  none : (set : ℕ) → lines_of (map (λ v. v.items) l.sets.items) set ≡ [];
}
