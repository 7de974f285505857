-- The buckets of a value's groups, word by word, and the rules that they leave.
use Rattle.std.specs.Prelude.{◌≡◌, ℕ, ◌+◌, ◌*◌, ◌<◌, ◌≤◌, Bool, false, ◌&&◌, List, slice_index}
use Rattle.bit_rows.specs.Row.{bit}
use Rattle.set_model.specs.declared.block.Block.{Block}
use Rattle.set_model.specs.Blocks.{holds_value}
use Rattle.lookup_table.specs.declared.table.FieldTable.{FieldTable}
use Rattle.lookup_table.specs.Table.{block_at}
use Rattle.lookup_table.specs.Rules.{Stands}
use Rattle.field_groups.specs.declared.places.LastFour.{LastFour}

-- Each of four buckets has its line of eight in a page of n words.
pub record HaveLines (n : ℕ) (buckets : LastFour) : Type 0 where
  pub four : buckets.fourth * 8 + 8 ≤ n
  pub three : buckets.third * 8 + 8 ≤ n
  pub two : buckets.second * 8 + 8 ≤ n
  pub one : buckets.last * 8 + 8 ≤ n

-- bit k of word w of a page in all four
abbrev pub in_all : List ℕ → LastFour → ℕ → ℕ → Bool
in_all words buckets w k =
    ((bit (slice_index words (buckets.fourth * 8 + w)) k && bit (slice_index words (buckets.third * 8 + w)) k) && bit (slice_index words (buckets.second * 8 + w)) k)
    && bit (slice_index words (buckets.last * 8 + w)) k

-- No rule of the words from `from` up to `to` holds the value.
abbrev pub NoneHolds : FieldTable → ℕ → ℕ → ℕ → Type 0
NoneHolds t value from to = (blocks : List Block) → Stands t blocks → (r : ℕ) → 64 * from ≤ r → r < 64 * to → r < t.rules → holds_value (block_at blocks r) value ≡ false
