use Rattle.std.proofs.Common.{◌≡◌, ℕ, ◌+◌, ◌-◌, ◌*◌, ◌≤◌}
use Rattle.bit_rows.specs.Words.{first_bits}
use Rattle.bit_rows.specs.Ranked.{rank}
use Rattle.bit_rows.proofs.ranked.ones_in.Given as goal

-- the places of the words before this one
abbrev pub invariant-words : goal.invariant-words
invariant-words l = record {
  counted : (len : ℕ) → 64 * l.w ≤ len → rank (first_bits l.words len) (64 * l.from) + l.count ≡ rank (first_bits l.words len) (64 * l.w);
  bound : l.count ≤ 64 * (l.w - l.from);
}
