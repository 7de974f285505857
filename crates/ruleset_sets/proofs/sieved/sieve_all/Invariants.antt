use Rattle.std.proofs.Common.{◌≡◌, ℕ, ◌++◌, ◌<◌, length, get_or}
use Rattle.ruleset_sets.specs.Items.{cuts, cuts_from}
use Rattle.ruleset_sets.specs.Kept.{taken_in, notes_in, kept_byte}
use Rattle.ruleset_sets.proofs.sieved.sieve_all.Given as goal

abbrev pub invariant-items : goal.invariant-items
invariant-items l = record {
  text : (k : ℕ) → k < length l.fn.text → kept_byte (taken_in (cuts_from 0 l.level l.left)) k (get_or l.text k 0) ≡ kept_byte (taken_in (cuts l.fn.tokens)) k (get_or l.fn.text k 0);
  skips : l.skips ++ notes_in (cuts_from 0 l.level l.left) ≡ l.fn.skips ++ notes_in (cuts l.fn.tokens);
}

abbrev pub decreases-items : goal.decreases-items
decreases-items l = length l.left
