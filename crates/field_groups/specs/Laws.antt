-- The laws that lead from blocks to groups, for both widths.
use Rattle.std.specs.Prelude.{◌≡◌, ℕ, ◌+◌, ◌-◌, ◌*◌, ◌/◌, ◌%◌, ◌^◌, ◌<◌, ◌≤◌, ◌↔◌, ◌&&◌, nat_le, nat_lt, true, IsTrue}
use Rattle.set_model.specs.declared.block.Block.{Block}
use Rattle.set_model.specs.Blocks.{holds_value, IsWithin}
use Rattle.field_groups.specs.Groups.{IsWidth, group, fixed, agrees, first_agreeing, agreeing_count, every, meets, share_value}

-- A block holds a value exactly if in each group the value agrees with the block.
abbrev pub HeldByGroups : Type 0
HeldByGroups = (width bits : ℕ) (block : Block) (value : ℕ) → IsWidth width bits → IsWithin bits block → value < 2 ^ bits
    → every (λ g. agrees width bits block g (group width bits g value)) (bits / width) ≡ holds_value block value

-- Two blocks share a value exactly if in each group some value agrees with both.
abbrev pub SharedByGroups : Type 0
SharedByGroups = (width bits : ℕ) (a b : Block) → IsWidth width bits → IsWithin bits a → IsWithin bits b
    → every (meets width bits a b) (bits / width) ≡ share_value a b

-- Two blocks share a value exactly if both hold some value.
abbrev pub SharedIsHeld : Type 0
SharedIsHeld = (a b : Block) → IsTrue (share_value a b) ↔ ((value : ℕ) × (holds_value a value ≡ true) × (holds_value b value ≡ true))

-- The values of a group that agree with a block are a run.
abbrev pub AgreeingRun : Type 0
AgreeingRun = (width bits g : ℕ) (block : Block) (v : ℕ) → v < 2 ^ width
    → agrees width bits block g v ≡ (nat_le (first_agreeing width bits g block) v && nat_lt v (first_agreeing width bits g block + agreeing_count width bits g block))

-- A value of a group of eight bits agrees with a block exactly if its halves do in the two groups
-- of four bits.
abbrev pub AgreeingHalves : Type 0
AgreeingHalves = (bits g : ℕ) (block : Block) (v : ℕ) → 8 * (g + 1) ≤ bits → v < 2 ^ 8
    → agrees 8 bits block g v ≡ (agrees 4 bits block (2 * g) (v / 2 ^ 4) && agrees 4 bits block (2 * g + 1) (v % 2 ^ 4))

-- What a block fixes of a group is that group of the block's network mask.
abbrev pub FixedByMask : Type 0
FixedByMask = (width bits g : ℕ) (block : Block) → IsWidth width bits → g < bits / width → IsWithin bits block
    → fixed width bits g block ≡ group width bits g (2 ^ bits - 2 ^ block.free_bits)
