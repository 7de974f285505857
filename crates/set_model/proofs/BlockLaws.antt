-- Laws of the split into blocks.
use Rattle.std.proofs.Common.{◌≡◌, refl, sym, ◌∙◌, ap, ℕ, zero, suc, ◌+◌, ◌-◌, ◌%◌, ◌^◌, ◌<◌, ◌≤◌, Bool, true, false, ◌&&◌, nat_le, ◌==◌, List, [], ◌∷◌, length, arith}
use Rattle.std.proofs.lemmas.Bool.{le-leb}
use Rattle.std.proofs.lemmas.Bool.Decides.{nat_tests}
use Rattle.std.proofs.Math.Nat.{pow-suc}
use Rattle.set_model.specs.declared.block.Block.{Block}
use Rattle.set_model.specs.Blocks.{greatest, is_block, free_bits, blocks_within, blocks}

-- a power is at least 1
power-one : (k : ℕ) → 1 ≤ 2 ^ k
power-one zero = omega arith
power-one (suc k) = omega (arith, power-one k, pow-suc 2 k)

abbrev step : (ℕ → List Block) → ℕ → ℕ → ℕ → Bool → List Block
step rest low high bits more = elim more as (λ _. List Block) [
  | true ↦ (record { base = low; free_bits = free_bits low high bits }) ∷ rest (low + 2 ^ free_bits low high bits)
  | false ↦ []
]

within-step : (n low high bits : ℕ) → blocks_within (suc n) low high bits ≡ step (λ next. blocks_within n next high bits) low high bits (nat_le low high)
within-step n low high bits = refl

le_false : (a b : ℕ) → b < a → nat_le a b ≡ false
le_false a b h = grind (arith, nat_tests)

none : (n low high bits : ℕ) → high < low → blocks_within n low high bits ≡ []
none zero low high bits h = refl
none (suc n) low high bits h = ap (step (λ next. blocks_within n next high bits) low high bits) (le_false low high h)

-- as many steps as there are values are enough
pub blocks-enough : (n m low high bits : ℕ) → high + 1 ≤ low + n → high + 1 ≤ low + m → blocks_within n low high bits ≡ blocks_within m low high bits
blocks-enough zero m low high bits a b = sym (none m low high bits (omega arith))
blocks-enough (suc n) zero low high bits a b = none (suc n) low high bits (omega arith)
blocks-enough (suc n) (suc m) low high bits a b =
    let p = power-one (free_bits low high bits) in
    let ih : blocks_within n (low + 2 ^ free_bits low high bits) high bits ≡ blocks_within m (low + 2 ^ free_bits low high bits) high bits =
    blocks-enough n m (low + 2 ^ free_bits low high bits) high bits (omega arith) (omega arith) in
    same (nat_le low high) ih where
      same : (t : Bool) → blocks_within n (low + 2 ^ free_bits low high bits) high bits ≡ blocks_within m (low + 2 ^ free_bits low high bits) high bits
          → step (λ next. blocks_within n next high bits) low high bits t ≡ step (λ next. blocks_within m next high bits) low high bits t
      same true ih = ap (λ z. (record { base = low; free_bits = free_bits low high bits }) ∷ z) ih
      same false ih = refl

-- the first block, and the split of the values after it
pub blocks-first : (low high bits : ℕ) → low ≤ high → blocks low high bits ≡ (record { base = low; free_bits = free_bits low high bits }) ∷ blocks (low + 2 ^ free_bits low high bits) high bits
blocks-first low high bits h =
    let p = power-one (free_bits low high bits) in
    blocks-enough (high + 1 - low) (suc (high - low)) low high bits (omega arith) (omega arith)
    ∙ ap (step (λ next. blocks_within (high - low) next high bits) low high bits) (le-leb low high h)
    ∙ ap (λ z. (record { base = low; free_bits = free_bits low high bits }) ∷ z) (blocks-enough (high - low) (high + 1 - (low + 2 ^ free_bits low high bits)) (low + 2 ^ free_bits low high bits) high bits (omega arith) (omega arith))

pub blocks-none : (low high bits : ℕ) → high < low → blocks low high bits ≡ []
blocks-none low high bits h = none (high + 1 - low) low high bits h

-- a single value is one block
no-larger : (v k : ℕ) → is_block v v (suc k) ≡ false
no-larger v k = go (v % (2 ^ suc k) == 0) where
  large : nat_le (v + 2 ^ suc k) (v + 1) ≡ false
  large = le_false (v + 2 ^ suc k) (v + 1) (omega (arith, pow-suc 2 k, power-one k))

  go : (t : Bool) → (t && nat_le (v + 2 ^ suc k) (v + 1)) ≡ false
  go true = large
  go false = refl

single-free : (v bits : ℕ) → free_bits v v bits ≡ 0
single-free v zero = refl
single-free v (suc bits) = go (is_block v v (suc bits)) (no-larger v bits) (single-free v bits) where
  go : (t : Bool) → t ≡ false → free_bits v v bits ≡ 0 → (elim t as (λ _. ℕ) [ true ↦ suc bits | false ↦ greatest (is_block v v) bits ]) ≡ 0
  go true e ih = absurd (cc e)
  go false e ih = ih

pub single : (v bits : ℕ) → length (blocks v v bits) ≡ 1
single v bits =
    ap length (blocks-first v v bits (omega arith))
    ∙ ap (λ k. suc (length (blocks (v + 2 ^ k) v bits))) (single-free v bits)
    ∙ ap (λ z. suc (length z)) (blocks-none (v + 2 ^ 0) v bits (omega arith))
