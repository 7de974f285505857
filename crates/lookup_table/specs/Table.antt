-- The buckets of a field's lookup table, and the rules that they represent.
--
-- A table has one row of buckets per group and one bucket per value of the group. Each bucket is a
-- bitmap of the field's rules. The kernel's theory of operation of the pile of packet policies
-- says: "for each group ... bitmap ... set if the rule matches the value".
use Rattle.std.specs.Prelude.{◌≡◌, ℕ, ◌+◌, ◌*◌, ◌/◌, ◌^◌, ◌<◌, Bool, List, [], length, get_or, map, All}
use Rattle.set_model.specs.declared.block.Block.{Block}
use Rattle.set_model.specs.Blocks.{IsWithin}
use Rattle.bit_rows.specs.Row.{Row, at}
use Rattle.field_groups.specs.Groups.{agrees, IsWidth}

-- the place of the bucket of value v of group g
abbrev pub bucket_place : ℕ → ℕ → ℕ → ℕ
bucket_place width g v = g * 2 ^ width + v

-- bucket j, or one without places past the end
abbrev pub bucket_at : List Row → ℕ → Row
bucket_at buckets j = get_or buckets j (record { bits = []; spare = 0 })

-- bit r of bucket j, false past its end
unfoldable pub cell : List Row → ℕ → ℕ → Bool
cell buckets j r = at (bucket_at buckets j).bits r

-- one bucket for each group and value, with one bit for each rule
pub record IsShaped (width bits rules : ℕ) (buckets : List Row) : Type 0 where
  pub groups : IsWidth width bits
  pub count : length buckets ≡ bits / width * 2 ^ width
  pub rows : All (λ row. length row.bits ≡ rules) buckets

-- block r of a list
abbrev pub block_at : List Block → ℕ → Block
block_at blocks r = get_or blocks r (record { base = 0; free_bits = 0 })

-- The buckets represent a list of blocks, one per rule. Bit r of bucket v of group g is set exactly
-- if v agrees with rule r's block on the bits that the block fixes in this group.
pub record StandsFor (width bits rules : ℕ) (buckets : List Row) (blocks : List Block) : Type 0 where
  pub one_each : length blocks ≡ rules
  pub within : All (IsWithin bits) blocks
  pub bucket : (g v r : ℕ) → g < bits / width → v < 2 ^ width → r < rules → cell buckets (bucket_place width g v) r ≡ agrees width bits (block_at blocks r) g v

-- how many places each bucket can have without more memory
abbrev pub rooms_of : List Row → List ℕ
rooms_of buckets = map (λ row. length row.bits + row.spare) buckets

-- the bits of each bucket
abbrev pub bucket_bits : List Row → List (List Bool)
bucket_bits buckets = map (λ row. row.bits) buckets
