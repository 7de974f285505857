use Rattle.std.proofs.Common.{◌≡◌, ℕ, ◌<◌, length, get_or, ◌&&◌, nat_le, nat_lt}
use Rattle.ruleset_sets.specs.Kept.{blank_if}
use Rattle.ruleset_sets.proofs.blanks.blank_one.Given as goal

abbrev pub invariant-loop-i : goal.invariant-loop-i
invariant-loop-i l = (k : ℕ) → k < length l.fn.text → get_or l.text k 0 ≡ blank_if (nat_le l.from k && nat_lt k l.i) (get_or l.fn.text k 0)
