-- Changes of buckets, one by one, and rows made of several buckets.
use Rattle.std.specs.Prelude.{◌≡◌, ℕ, ◌+◌, ◌-◌, ◌*◌, ◌/◌, ◌%◌, ◌^◌, ◌<◌, ◌≤◌, Bool, true, false, cond, ◌&&◌, ◌||◌, ◌==◌, nat_lt, List, ◌++◌, length, replicate, All}
use Rattle.set_model.specs.declared.block.Block.{Block}
use Rattle.set_model.specs.Blocks.{IsWithin}
use Rattle.set_model.specs.Runs.{without_run}
use Rattle.bit_rows.specs.Row.{Row, at, lies}
use Rattle.field_groups.specs.Groups.{agrees, some_from}
use Rattle.lookup_table.specs.Table.{bucket_at, bucket_place, block_at, cell}

-- R holds of each row before and after
pub record Each (R : Row → Row → Type 0) (old new : List Row) : Type 0 where
  pub long : length new ≡ length old
  pub at : (j : ℕ) → j < length old → R (bucket_at old j) (bucket_at new j)

-- n more places that are not set, in the same room
pub record IsRaised (n : ℕ) (old new : Row) : Type 0 where
  pub bits : new.bits ≡ old.bits ++ replicate n false
  pub spare : new.spare + n ≡ old.spare

-- without the n places from `first` on, in the same room
pub record IsClosedUp (first n : ℕ) (old new : Row) : Type 0 where
  pub bits : new.bits ≡ without_run old.bits first n
  pub room : length new.bits + new.spare ≡ length old.bits + old.spare

-- the same bits, and no less room
pub record IsGrown (old new : Row) : Type 0 where
  pub bits : new.bits ≡ old.bits
  pub spare : old.spare ≤ new.spare

-- each row keeps its length and its room
pub record IsSameSize (old new : List Row) : Type 0 where
  pub long : length new ≡ length old
  pub bits : (j : ℕ) → length (bucket_at new j).bits ≡ length (bucket_at old j).bits
  pub spare : (j : ℕ) → (bucket_at new j).spare ≡ (bucket_at old j).spare

-- place r is set in the rows from `from` up to `to` too
pub record IsMarked (from to r : ℕ) (old new : List Row) : Type 0 where
  pub size : IsSameSize old new
  pub cells : (j i : ℕ) → cell new j i ≡ (cell old j i || (lies from to j && i == r))

-- row j is overwritten
pub record IsPut (j : ℕ) (bits : List Bool) (old new : List Row) : Type 0 where
  pub size : IsSameSize old new
  pub row : (bucket_at new j).bits ≡ bits
  pub others : (i : ℕ) → (i ≡ j → ⊥) → (bucket_at new i).bits ≡ (bucket_at old i).bits

-- place r is also set in those buckets of the first n groups whose value agrees with the block
pub record IsBlockMarked (width bits n : ℕ) (block : Block) (r : ℕ) (old new : List Row) : Type 0 where
  pub size : IsSameSize old new
  pub cells : (g v i : ℕ) → v < 2 ^ width → cell new (bucket_place width g v) i ≡ (cell old (bucket_place width g v) i || (nat_lt g n && agrees width bits block g v && i == r))

-- the first n places of each row are unchanged
pub record KeepsCells (n : ℕ) (old new : List Row) : Type 0 where
  pub cells : (j i : ℕ) → i < n → cell new j i ≡ cell old j i

-- None of the rules from `first` on is set.
pub record HasNoRulesFrom (first : ℕ) (rows : List Row) : Type 0 where
  pub cells : (j i : ℕ) → first ≤ i → cell rows j i ≡ false

-- Of the rules from `first` on, only the rules of the first n blocks are set, each only in buckets
-- whose value agrees with its block.
pub record HasOnly (width bits first n : ℕ) (blocks : List Block) (rows : List Row) : Type 0 where
  pub within : (g v i : ℕ) → v < 2 ^ width → first ≤ i → cell rows (bucket_place width g v) i ≡ true → i < first + n
  pub agree : (g v i : ℕ) → v < 2 ^ width → first ≤ i → cell rows (bucket_place width g v) i ≡ true → agrees width bits (block_at blocks (i - first)) g v ≡ true

-- The first bits of the buckets are those of the blocks' rules, and no other bit is set.
pub record HasBlockRules (width bits : ℕ) (buckets : List Row) (blocks : List Block) : Type 0 where
  pub within : All (IsWithin bits) blocks
  pub bucket : (g v r : ℕ) → g < bits / width → v < 2 ^ width → r < length blocks → cell buckets (bucket_place width g v) r ≡ agrees width bits (block_at blocks r) g v
  pub rest : (g v r : ℕ) → g < bits / width → v < 2 ^ width → length blocks ≤ r → cell buckets (bucket_place width g v) r ≡ false

-- a place of the row is set exactly if it is set in one of the first n buckets at `start`, `start +
-- step` and so on
pub record IsJoined (buckets : List Row) (start step n rules : ℕ) (row : Row) : Type 0 where
  pub long : length row.bits ≡ rules
  pub at : (r : ℕ) → r < rules → at row.bits r ≡ some_from (λ i. cell buckets (start + i * step) r) 0 n

-- bucket j in groups of eight bits has the places that are set for both halves of its value in
-- groups of four
pub record IsWide (old : List Row) (rules j : ℕ) (row : Row) : Type 0 where
  pub long : length row.bits ≡ rules
  pub at : (r : ℕ) → r < rules
      → at row.bits r ≡ (cell old (bucket_place 4 (2 * (j / 2 ^ 8)) (j % 2 ^ 8 / 2 ^ 4)) r && cell old (bucket_place 4 (2 * (j / 2 ^ 8) + 1) (j % 2 ^ 8 % 2 ^ 4)) r)

-- Sixteen buckets of groups of eight bits have the value of bucket j of groups of four as their
-- upper or lower half. This is the place of the first of them, and their distance.
abbrev pub halves_start : ℕ → ℕ
halves_start j = cond (j / 16 % 2 == 0) (j / 16 / 2 * 256 + j % 16 * 16) (j / 16 / 2 * 256 + j % 16)

abbrev pub halves_step : ℕ → ℕ
halves_step j = cond (j / 16 % 2 == 0) 1 16

-- The rules of the new rows are the old rules, and then one rule for each of these blocks.
abbrev pub MarksRules : ℕ → ℕ → ℕ → List Row → List Row → List Block → Type 0
MarksRules width bits first old new added = (blocks : List Block) → length blocks ≡ first → HasBlockRules width bits old blocks → HasBlockRules width bits new (blocks ++ added)
