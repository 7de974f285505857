use Rattle.std.proofs.Common.{◌≡◌, ℕ, ◌+◌, ◌*◌, length, Some, slice_get}
use Rattle.bit_rows.specs.Words.{first_bits}
use Rattle.bit_rows.specs.Ranked.{rank}
use Rattle.bit_rows.proofs.ranked.RankedBits.of_words.Given as goal

-- the ranks of the pages before this one
abbrev pub invariant-pages : goal.invariant-pages
invariant-pages l = record {
  long : length l.ranks.items ≡ l.page;
  here : l.rank ≡ rank (first_bits l.words.items l.len) (512 * l.page);
  each : (page r : ℕ) → slice_get l.ranks.items page ≡ Some r → r ≡ rank (first_bits l.words.items l.len) (512 * page + 512);
}
