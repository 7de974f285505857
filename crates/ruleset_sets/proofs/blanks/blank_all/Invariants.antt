use Rattle.std.proofs.Common.{◌≡◌, ℕ, ◌<◌, length, get_or}
use Rattle.ruleset_sets.specs.Kept.{kept_byte}
use Rattle.ruleset_sets.proofs.blanks.blank_all.Given as goal

abbrev pub invariant-each : goal.invariant-each
invariant-each l = (k : ℕ) → k < length l.fn.text → kept_byte l.left k (get_or l.text k 0) ≡ kept_byte l.fn.tokens k (get_or l.fn.text k 0)

abbrev pub decreases-each : goal.decreases-each
decreases-each l = length l.left
