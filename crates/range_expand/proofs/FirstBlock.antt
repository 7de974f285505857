-- The first block of an interval, and how the code computes its free bits.
use Rattle.std.proofs.Common.{◌≡◌, refl, sym, ◌∙◌, ap, ℕ, zero, suc, ◌+◌, ◌-◌, ◌*◌, ◌/◌, ◌%◌, ◌^◌, ◌<◌, ◌≤◌, ◌⊎◌, min, Bool, true, false, ◌&&◌, ◌==◌, nat_le, arith, inl, inr}
use Rattle.std.specs.Int.{bit_at, trailing_zeros, w128}
use Rattle.std.specs.Int.Count.{trailing_of_zero}
use Rattle.std.proofs.lemmas.Bool.{cases_lt, cases_eq, le-leb, lt-leb, eq-eqb, ne_eqb, leb-true, eqb-true, and_parts, and_from}
use Rattle.std.proofs.lemmas.Nat.{pow_pos, mod-pow-add, one_shl}
use Rattle.std.proofs.lemmas.Nat.Bits.{bit_at-trailing_zeros, bit_at-zero}
use Rattle.std.proofs.Math.Bool.{and-false}
use Rattle.std.proofs.Math.Nat.{pow-suc, mod-one}
use Rattle.std.proofs.Math.Pow.{pow_mono}
use Rattle.set_model.specs.Blocks.{greatest, is_block, free_bits}
use Rattle.range_expand.specs.Split.{IsFieldInterval}

-- ---- the greatest number that passes a test

-- It is k if k passes, or is 0, and no larger number passes.
pub greatest-is : (test : ℕ → Bool) (n k : ℕ) → k ≤ n → (test k ≡ true) ⊎ (k ≡ 0) → ((j : ℕ) → k < j → j ≤ n → test j ≡ false) → greatest test n ≡ k
greatest-is test zero k le passes more = omega arith
greatest-is test (suc n) k le passes more = go (cases_eq k (suc n)) passes (λ b. greatest-is test n k b passes (λ j a c. more j a (omega arith))) where
  pick : (t : Bool) → t ≡ true → (elim t as (λ _. ℕ) [ true ↦ suc n | false ↦ greatest test n ]) ≡ suc n
  pick true e = refl
  pick false e = absurd (cc e)

  skip : (t : Bool) → t ≡ false → (elim t as (λ _. ℕ) [ true ↦ suc n | false ↦ greatest test n ]) ≡ greatest test n
  skip true e = absurd (cc e)
  skip false e = refl

  apart : (k ≡ suc n → ⊥) → k < suc n
  apart f = omega arith

  below : (k ≡ suc n → ⊥) → k ≤ n
  below f = omega arith

  go : (k ≡ suc n) ⊎ (k ≡ suc n → ⊥) → (test k ≡ true) ⊎ (k ≡ 0) → (k ≤ n → greatest test n ≡ k) → greatest test (suc n) ≡ k
  go (inl e) (inl p) ih = pick (test (suc n)) (ap test (sym e) ∙ p) ∙ sym e
  go (inl e) (inr z) ih = absurd (omega arith)
  go (inr e) p ih = skip (test (suc n)) (more (suc n) (apart e) (omega arith)) ∙ ih (below e)

greatest-passes : (test : ℕ → Bool) (n : ℕ) → (test (greatest test n) ≡ true) ⊎ (greatest test n ≡ 0)
greatest-passes test zero = inr refl
greatest-passes test (suc n) = go (test (suc n)) refl (greatest-passes test n) where
  go : (t : Bool) → test (suc n) ≡ t → (test (greatest test n) ≡ true) ⊎ (greatest test n ≡ 0)
      → (test (elim t as (λ _. ℕ) [ true ↦ suc n | false ↦ greatest test n ]) ≡ true) ⊎ ((elim t as (λ _. ℕ) [ true ↦ suc n | false ↦ greatest test n ]) ≡ 0)
  go true e ih = inl e
  go false e ih = ih

-- ---- when a block may start at a base

pub block-passes : (low high k : ℕ) → low % 2 ^ k ≡ 0 → low + 2 ^ k ≤ high + 1 → is_block low high k ≡ true
block-passes low high k aligned fits = and_from _ _ (eq-eqb (low % 2 ^ k) 0 aligned) (le-leb (low + 2 ^ k) (high + 1) fits)

-- if the block of one more free bit is too large, each larger one is, too
pub block-too_large : (low high j k : ℕ) → k < j → high + 1 < low + 2 ^ suc k → is_block low high j ≡ false
block-too_large low high j k h small =
    let larger : 2 ^ suc k ≤ 2 ^ j = pow_mono {i = suc k} {j = j} (omega arith) in
    ap (λ t. (low % 2 ^ j == 0) && t) (lt-leb (low + 2 ^ j) (high + 1) (omega arith)) ∙ and-false (low % 2 ^ j == 0)

pub block-unaligned : (low high j : ℕ) → (low % 2 ^ j ≡ 0 → ⊥) → is_block low high j ≡ false
block-unaligned low high j odd = ap (λ t. t && nat_le (low + 2 ^ j) (high + 1)) (ne_eqb (low % 2 ^ j) 0 odd)

-- the first block ends within the interval
pub first-within : (low high bits : ℕ) → low ≤ high → low + 2 ^ free_bits low high bits ≤ high + 1
first-within low high bits h = go (greatest-passes (is_block low high) bits) where
  go : (is_block low high (free_bits low high bits) ≡ true) ⊎ (free_bits low high bits ≡ 0) → low + 2 ^ free_bits low high bits ≤ high + 1
  go (inl e) = leb-true (low + 2 ^ free_bits low high bits) (high + 1) (and_parts (low % 2 ^ free_bits low high bits == 0) (nat_le (low + 2 ^ free_bits low high bits) (high + 1)) e).1
  go (inr e) = omega (arith, ap (λ k. 2 ^ k) e)

-- its base is a multiple of its size
pub first-aligned : (low high bits : ℕ) → low % 2 ^ free_bits low high bits ≡ 0
first-aligned low high bits = go (greatest-passes (is_block low high) bits) where
  go : (is_block low high (free_bits low high bits) ≡ true) ⊎ (free_bits low high bits ≡ 0) → low % 2 ^ free_bits low high bits ≡ 0
  go (inl e) = eqb-true (low % 2 ^ free_bits low high bits) 0 (and_parts (low % 2 ^ free_bits low high bits == 0) (nat_le (low + 2 ^ free_bits low high bits) (high + 1)) e).0
  go (inr e) = ap (λ k. low % 2 ^ k) e ∙ mod-one low

-- ---- the code's number of free bits

-- the low bits of a number are 0 if each of them is
low-zero : (n t : ℕ) → ((i : ℕ) → i < t → bit_at n i ≡ 0) → n % 2 ^ t ≡ 0
low-zero n zero none = mod-one n
low-zero n (suc t) none =
    let split = mod-pow-add n 1 t in
    let e : suc t ≡ 1 + t = omega arith in
    ap (λ j. n % 2 ^ j) e ∙ split ∙ two (none t (omega arith)) (low-zero n t (λ i h. none i (omega arith))) where
      two : {a b : ℕ} → a ≡ 0 → b ≡ 0 → a * 2 ^ t + b ≡ 0
      two {a} {b} e f = rw (e, f) (omega arith)

-- a set bit leaves a rest at every larger power
rest-some : (n t j : ℕ) → bit_at n t ≡ 1 → t < j → n % 2 ^ j ≡ 0 → ⊥
rest-some n t j set h none =
    let e : j ≡ (j - (1 + t)) + (1 + t) = omega arith in
    let whole : n % 2 ^ ((j - (1 + t)) + (1 + t)) ≡ 0 = ap (λ x. n % 2 ^ x) (sym e) ∙ none in
    let split : n % 2 ^ ((j - (1 + t)) + (1 + t)) ≡ n / 2 ^ (1 + t) % 2 ^ (j - (1 + t)) * 2 ^ (1 + t) + n % 2 ^ (1 + t) = mod-pow-add n (j - (1 + t)) (1 + t) in
    let low : n % 2 ^ (1 + t) ≡ 0 = omega arith in
    let parts : n % 2 ^ (1 + t) ≡ bit_at n t * 2 ^ t + n % 2 ^ t = mod-pow-add n 1 t in
    let one : bit_at n t * 2 ^ t ≡ 2 ^ t = ap (λ b. b * 2 ^ t) set ∙ omega arith in
    let p : 0 < 2 ^ t = pow_pos t in
    absurd (omega arith)

-- The least of the base's trailing zeros, of the interval's size as a power and of the field's bits is the definition's number.
pub free-is : (low high bits size : ℕ) → IsFieldInterval low high bits → low < 2 ^ 128 → 2 ^ size ≤ high - low + 1 → high - low + 1 < 2 * 2 ^ size → size ≤ 128
    → min (min (trailing_zeros w128 low) size) bits ≡ free_bits low high bits
free-is low high bits size good fits below above small =
    sym (greatest-is (is_block low high) bits (min (min (trailing_zeros w128 low) size) bits) (omega arith) (inl (block-passes low high _ zeros fit)) more) where
      zeros : low % 2 ^ min (min (trailing_zeros w128 low) size) bits ≡ 0
      zeros = go (cases_eq low 0) where
        go : (low ≡ 0) ⊎ (low ≡ 0 → ⊥) → low % 2 ^ min (min (trailing_zeros w128 low) size) bits ≡ 0
        go (inl e) = low-zero low _ (λ i h. ap (λ n. bit_at n i) e ∙ bit_at-zero i)
        go (inr e) = low-zero low _ (λ i h. (bit_at-trailing_zeros w128 low (above_zero e) fits).2 i (omega arith)) where
          above_zero : (low ≡ 0 → ⊥) → 0 < low
          above_zero f = omega arith

      fit : low + 2 ^ min (min (trailing_zeros w128 low) size) bits ≤ high + 1
      fit =
          let o = good.order in
          let h : 2 ^ min (min (trailing_zeros w128 low) size) bits ≤ 2 ^ size = pow_mono {i = min (min (trailing_zeros w128 low) size) bits} {j = size} (omega arith) in
          omega arith

      unaligned : (j : ℕ) → trailing_zeros w128 low < j → j ≤ 128 → is_block low high j ≡ false
      unaligned j h m = go (cases_eq low 0) where
        go : (low ≡ 0) ⊎ (low ≡ 0 → ⊥) → is_block low high j ≡ false
        go (inl e) = absurd (let z : trailing_zeros w128 low ≡ 128 = ap (trailing_zeros w128) e ∙ trailing_of_zero 128 in omega arith)
        go (inr e) = block-unaligned low high j (rest-some low (trailing_zeros w128 low) j (bit_at-trailing_zeros w128 low (above_zero e) fits).1 h) where
          above_zero : (low ≡ 0 → ⊥) → 0 < low
          above_zero f = omega arith

      more : (j : ℕ) → min (min (trailing_zeros w128 low) size) bits < j → j ≤ bits → is_block low high j ≡ false
      more j a b = elim (cases_lt size j) [
        | inl h ↦ let o = good.order in block-too_large low high j size h (omega (arith, pow-suc 2 size))
        | inr h ↦ let m = good.most in unaligned j (omega arith) (omega arith)
      ]

pub ruleset powers = (one_shl)
