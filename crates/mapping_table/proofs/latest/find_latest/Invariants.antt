use Rattle.std.proofs.Common.{◌≡◌, ℕ, ◌+◌, ◌/◌, ◌<◌, ◌≤◌, length, get_or}
use Rattle.std.specs.Vec.{vec_capacity}
use Rattle.mapping_table.specs.Spared.{word_of}
use Rattle.mapping_table.specs.Latest.{latest_end}
use Rattle.mapping_table.proofs.latest.find_latest.Given as goal

abbrev pub invariant-words : goal.invariant-words
invariant-words l = record {
  count : length l.latest.items ≡ (length l.ends.items + 63) / 64;
  before : (v : ℕ) → v < l.from → get_or l.latest.items v 0 ≡ get_or l.fn.latest.items v 0;
  found : (v : ℕ) → l.from ≤ v → v < l.w → get_or l.latest.items v 0 ≡ latest_end (word_of v l.ends.items);
  capacity : vec_capacity l.latest ≡ vec_capacity l.fn.latest;
}
