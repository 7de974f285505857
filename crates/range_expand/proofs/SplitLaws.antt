-- Which values the blocks of an interval hold, and one step of the split.
use Rattle.std.proofs.Common.{◌≡◌, refl, sym, ◌∙◌, ap, ℕ, zero, suc, ◌+◌, ◌^◌, ◌<◌, ◌≤◌, ◌⊎◌, Bool, cond, ◌&&◌, nat_le, nat_lt, List, [], ◌∷◌, All, count_by, arith, inl, inr}
use Rattle.std.proofs.lemmas.Bool.{cases_lt, lt-ltb, le-ltb, le-leb, lt-leb}
use Rattle.std.proofs.lemmas.Nat.{pow_pos}
use Rattle.std.proofs.lemmas.List.Sums.{sum_by-cons}
use Rattle.std.proofs.lemmas.List.Elements.{All-nil, All-cons, All-same}
use Rattle.std.proofs.Math.Bool.{and-false}
use Rattle.set_model.specs.declared.block.Block.{Block}
use Rattle.set_model.specs.Blocks.{free_bits, blocks, holds_value, IsWithin}
use Rattle.set_model.proofs.BlockLaws.{blocks-first, blocks-none}
use Rattle.range_expand.specs.Split.{IsFieldInterval, IsHeldOnce}
use Rattle.range_expand.proofs.FirstBlock.{first-within, first-aligned}

-- ---- each value is held once

abbrev one_if : Bool → ℕ
one_if t = cond t 1 0

abbrev held_by : List Block → ℕ → ℕ
held_by split v = count_by (λ b. holds_value b v) split

-- a value of a run is in its first part or in the rest
run-split : (low next high v : ℕ) → low ≤ next → next ≤ high + 1 → one_if (nat_le low v && nat_lt v next) + one_if (nat_le next v && nat_le v high) ≡ one_if (nat_le low v && nat_le v high)
run-split low next high v a b = go (cases_lt v low) (cases_lt v next) (cases_lt high v) where
  go : (v < low) ⊎ (low ≤ v) → (v < next) ⊎ (next ≤ v) → (high < v) ⊎ (v ≤ high)
      → one_if (nat_le low v && nat_lt v next) + one_if (nat_le next v && nat_le v high) ≡ one_if (nat_le low v && nat_le v high)
  go (inl h) (inl k) c = rw (lt-leb low v h, lt-leb next v k) refl
  go (inl h) (inr k) c = absurd (omega arith)
  go (inr h) (inl k) (inl c) = absurd (omega arith)
  go (inr h) (inl k) (inr c) = rw (le-leb low v h, lt-ltb v next k, lt-leb next v k, le-leb v high c) refl
  go (inr h) (inr k) (inl c) = rw (le-leb low v h, le-ltb v next k, le-leb next v k, lt-leb v high c) refl
  go (inr h) (inr k) (inr c) = rw (le-leb low v h, le-ltb v next k, le-leb next v k, le-leb v high c) refl

empty-run : (low high v : ℕ) → high < low → one_if (nat_le low v && nat_le v high) ≡ 0
empty-run low high v h = go (cases_lt v low) where
  go : (v < low) ⊎ (low ≤ v) → one_if (nat_le low v && nat_le v high) ≡ 0
  go (inl l) = ap (λ t. one_if (t && nat_le v high)) (lt-leb low v l)
  go (inr l) = ap (λ t. one_if (nat_le low v && t)) (lt-leb v high (omega arith)) ∙ ap one_if (and-false (nat_le low v))

held-once : (n low high bits v : ℕ) → high + 1 ≤ low + n → held_by (blocks low high bits) v ≡ one_if (nat_le low v && nat_le v high)
held-once zero low high bits v enough = ap (λ xs. held_by xs v) (blocks-none low high bits (omega arith)) ∙ sym (empty-run low high v (omega arith))
held-once (suc n) low high bits v enough =
    let p : 0 < 2 ^ free_bits low high bits = pow_pos (free_bits low high bits) in
    go (cases_lt high low) (held-once n (low + 2 ^ free_bits low high bits) high bits v (omega arith)) where
      go : (high < low) ⊎ (low ≤ high) → held_by (blocks (low + 2 ^ free_bits low high bits) high bits) v ≡ one_if (nat_le (low + 2 ^ free_bits low high bits) v && nat_le v high)
          → held_by (blocks low high bits) v ≡ one_if (nat_le low v && nat_le v high)
      go (inl h) ih = ap (λ xs. held_by xs v) (blocks-none low high bits h) ∙ sym (empty-run low high v h)
      go (inr h) ih =
          ap (λ xs. held_by xs v) (blocks-first low high bits h) ∙ sum_by-cons (λ b. one_if (holds_value b v)) (record { base = low; free_bits = free_bits low high bits }) (blocks (low + 2 ^ free_bits low high bits) high bits)
          ∙ ap (λ m. one_if (nat_le low v && nat_lt v (low + 2 ^ free_bits low high bits)) + m) ih
          ∙ run-split low (low + 2 ^ free_bits low high bits) high v (omega arith) (first-within low high bits h)

pub blocks-held : (low high bits : ℕ) → IsHeldOnce low high (blocks low high bits)
blocks-held low high bits v = held-once (high + 1) low high bits v (omega arith)

-- ---- each block lies within the bits

all-within : (n low high bits : ℕ) → high + 1 ≤ low + n → high < 2 ^ bits → All (IsWithin bits) (blocks low high bits)
all-within zero low high bits enough fits = All-same (IsWithin bits) (blocks low high bits) [] (blocks-none low high bits (omega arith)) (All-nil (IsWithin bits))
all-within (suc n) low high bits enough fits =
    let p : 0 < 2 ^ free_bits low high bits = pow_pos (free_bits low high bits) in
    go (cases_lt high low) (all-within n (low + 2 ^ free_bits low high bits) high bits (omega arith) fits) where
      go : (high < low) ⊎ (low ≤ high) → All (IsWithin bits) (blocks (low + 2 ^ free_bits low high bits) high bits) → All (IsWithin bits) (blocks low high bits)
      go (inl h) ih = All-same (IsWithin bits) (blocks low high bits) [] (blocks-none low high bits h) (All-nil (IsWithin bits))
      go (inr h) ih =
          All-same (IsWithin bits) (blocks low high bits) ((record { base = low; free_bits = free_bits low high bits }) ∷ blocks (low + 2 ^ free_bits low high bits) high bits) (blocks-first low high bits h)
          (All-cons (IsWithin bits) (record { base = low; free_bits = free_bits low high bits }) (blocks (low + 2 ^ free_bits low high bits) high bits)
          (record { aligned = first-aligned low high bits; below = let f = first-within low high bits h in omega arith }) ih)

pub blocks-within : (low high bits : ℕ) → IsFieldInterval low high bits → All (IsWithin bits) (blocks low high bits)
blocks-within low high bits good = all-within (high + 1) low high bits (omega arith) good.below

-- ---- one step of the iterator

pub step-more : (low high bits free last : ℕ) → low ≤ high → free ≡ free_bits low high bits → last + 1 ≡ low + 2 ^ free
    → blocks low high bits ≡ (record { base = low; free_bits = free }) ∷ blocks (last + 1) high bits
step-more low high bits free last h e f =
    blocks-first low high bits h ∙ two (sym e) (ap (λ k. low + 2 ^ k) (sym e) ∙ sym f) where
      two : {p q r t : ℕ} → p ≡ q → r ≡ t → (let xs : List Block = (record { base = low; free_bits = p }) ∷ blocks r high bits in xs) ≡ ((record { base = low; free_bits = q }) ∷ blocks t high bits)
      two x y = cc

pub step-last : (low high bits free last : ℕ) → low ≤ high → free ≡ free_bits low high bits → last + 1 ≡ low + 2 ^ free → high ≤ last
    → blocks low high bits ≡ (record { base = low; free_bits = free }) ∷ blocks 1 0 bits
step-last low high bits free last h e f far =
    step-more low high bits free last h e f
    ∙ ap (λ xs. (record { base = low; free_bits = free }) ∷ xs) (blocks-none (last + 1) high bits (omega arith) ∙ sym (blocks-none 1 0 bits (omega arith)))
