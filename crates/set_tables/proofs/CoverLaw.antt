-- The blocks of an interval hold the interval's values and no other.
use Rattle.std.proofs.Common.{◌≡◌, ◌∙◌, ap, ℕ, zero, suc, ◌+◌, ◌^◌, ◌<◌, ◌≤◌, false, ◌&&◌, ◌||◌, nat_le, nat_lt, arith, inl, inr}
use Rattle.std.specs.List.{list_any}
use Rattle.std.specs.Prelude.{◌⊎◌}
use Rattle.std.proofs.lemmas.Bool.{cases_lt}
use Rattle.std.proofs.lemmas.Bool.Decides.{nat_tests}
use Rattle.std.proofs.lemmas.Nat.{pow_pos}
use Rattle.set_model.specs.Blocks.{free_bits, blocks, holds_value}
use Rattle.set_model.proofs.BlockLaws.{blocks-first, blocks-none}
use Rattle.range_expand.proofs.FirstBlock.{first-within}

no-values : (low high v : ℕ) → high < low → false ≡ (nat_le low v && nat_le v high)
no-values low high v h = grind (arith, nat_tests)

two-parts : (low mid high v : ℕ) → low ≤ mid → mid ≤ high + 1 → ((nat_le low v && nat_lt v mid) || (nat_le mid v && nat_le v high)) ≡ (nat_le low v && nat_le v high)
two-parts low mid high v h g = grind (arith, nat_tests)

covers : (n low high bits v : ℕ) → high + 1 ≤ low + n → list_any (λ b. holds_value b v) (blocks low high bits) ≡ (nat_le low v && nat_le v high)
covers zero low high bits v h = rw (blocks-none low high bits (omega arith)) (no-values low high v (omega arith))
covers (suc n) low high bits v h = go (cases_lt high low) (λ next g. covers n next high bits v g) where
  go : (high < low) ⊎ (low ≤ high) → ((next : ℕ) → high + 1 ≤ next + n → list_any (λ b. holds_value b v) (blocks next high bits) ≡ (nat_le next v && nat_le v high))
      → list_any (λ b. holds_value b v) (blocks low high bits) ≡ (nat_le low v && nat_le v high)
  go (inl a) ih = rw (blocks-none low high bits a) (no-values low high v a)
  go (inr a) ih =
      let p : 0 < 2 ^ free_bits low high bits = pow_pos (free_bits low high bits) in
      let w = first-within low high bits a in
      ap (list_any (λ b. holds_value b v)) (blocks-first low high bits a)
      ∙ ap (λ z. holds_value (record { base = low; free_bits = free_bits low high bits }) v || z) (ih (low + 2 ^ free_bits low high bits) (omega arith))
      ∙ two-parts low (low + 2 ^ free_bits low high bits) high v (omega arith) w

pub blocks-cover : (low high bits v : ℕ) → list_any (λ b. holds_value b v) (blocks low high bits) ≡ (nat_le low v && nat_le v high)
blocks-cover low high bits v = covers (high + 1) low high bits v (omega arith)
