-- The split of an interval into blocks. Each block is one rule of a field. The kernel's theory of
-- operation of the pile of packet policies says: "ranges are split into composing netmasks".
use Rattle.std.specs.Prelude.{ℕ, zero, suc, ◌+◌, ◌-◌, ◌%◌, ◌^◌, ◌≡◌, ◌≤◌, Bool, true, false, ◌&&◌, nat_le, nat_lt, ◌==◌, List, [], ◌∷◌}
use Rattle.set_model.specs.declared.block.Block.{Block}

-- the greatest number of at most n that passes, or 0
abbrev pub greatest : (ℕ → Bool) → ℕ → ℕ
greatest test zero = zero
greatest test (suc n) = elim (test (suc n)) [ true ↦ suc n | false ↦ greatest test n ]

-- A block of 2 to the power k values is aligned at low and doesn't pass high.
abbrev pub is_block : ℕ → ℕ → ℕ → Bool
is_block low high k = (low % (2 ^ k) == 0) && nat_le (low + 2 ^ k) (high + 1)

-- how many bits the first block of an interval leaves free: as many as possible
abbrev pub free_bits : ℕ → ℕ → ℕ → ℕ
free_bits low high bits = greatest (is_block low high) bits

-- at most n blocks from low on: the largest block there, and then the blocks after it
abbrev pub blocks_within : ℕ → ℕ → ℕ → ℕ → List Block
blocks_within zero low high bits = []
blocks_within (suc n) low high bits =
    elim (nat_le low high) [
      | true ↦ let k = free_bits low high bits in (record { base = low; free_bits = k }) ∷ blocks_within n (low + 2 ^ k) high bits
      | false ↦ []
    ]

-- The blocks of an interval. Each block has a value, so an interval has no more blocks than
-- values.
abbrev pub blocks : ℕ → ℕ → ℕ → List Block
blocks low high bits = blocks_within (high + 1 - low) low high bits

-- A block holds a value: the base is at most the value, and the value is below the base plus the
-- block's size.
abbrev pub holds_value : Block → ℕ → Bool
holds_value block value = nat_le block.base value && nat_lt value (block.base + 2 ^ block.free_bits)

-- A block is within so many bits: its base is a multiple of its size, and its last value has no
-- more bits.
pub record IsWithin (bits : ℕ) (block : Block) : Type 0 where
  pub aligned : block.base % (2 ^ block.free_bits) ≡ 0
  pub below : block.base + 2 ^ block.free_bits ≤ 2 ^ bits
