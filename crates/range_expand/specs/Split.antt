-- What contracts say of the split of an interval into blocks.
use Rattle.std.specs.Prelude.{◌≡◌, ℕ, ◌≤◌, ◌<◌, ◌^◌, ◌&&◌, nat_le, if◌then◌else◌, List, count_by}
use Rattle.set_model.specs.declared.block.Block.{Block}
use Rattle.set_model.specs.Blocks.{holds_value}

-- the values from low to high, of a field of 1 to 128 bits
pub record IsFieldInterval (low high bits : ℕ) : Type 0 where
  pub order : low ≤ high
  pub below : high < 2 ^ bits
  pub some : 1 ≤ bits
  pub most : bits ≤ 128

-- Exactly one of the blocks holds each value from low to high. No block holds another value.
abbrev pub IsHeldOnce : ℕ → ℕ → List Block → Type 0
IsHeldOnce low high split = (v : ℕ) → count_by (λ b. holds_value b v) split ≡ (if nat_le low v && nat_le v high then 1 else 0)
