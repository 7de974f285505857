-- How many blocks an interval has.
use Rattle.std.proofs.Common.{◌≡◌, sym, ◌∙◌, ap, ℕ, zero, suc, ◌+◌, ◌-◌, ◌*◌, ◌/◌, ◌%◌, ◌^◌, ◌<◌, ◌≤◌, ◌⊎◌, length, arith, inl, inr}
use Rattle.std.proofs.lemmas.Bool.{cases_lt, cases_eq}
use Rattle.std.proofs.lemmas.Nat.{mod-pow-add, mod_below, div-add-mod'}
use Rattle.std.proofs.Math.Nat.{pow-suc, mod-one, mul-mod_left}
use Rattle.set_model.specs.Blocks.{is_block, free_bits, blocks}
use Rattle.set_model.proofs.BlockLaws.{blocks-first, blocks-none}
use Rattle.range_expand.specs.Split.{IsFieldInterval}
use Rattle.range_expand.proofs.FirstBlock.{greatest-is, block-passes, block-too_large, block-unaligned}

-- ---- multiples of powers of two

half-aligned : (n t : ℕ) → n % 2 ^ suc t ≡ 0 → n % 2 ^ t ≡ 0
half-aligned n t h =
    let e : suc t ≡ 1 + t = omega arith in
    let split : n % 2 ^ (1 + t) ≡ n / 2 ^ t % 2 ^ 1 * 2 ^ t + n % 2 ^ t = mod-pow-add n 1 t in
    let none : n % 2 ^ (1 + t) ≡ 0 = ap (λ j. n % 2 ^ j) (sym e) ∙ h in
    omega arith

less-aligned : (n t j : ℕ) → t < j → n % 2 ^ j ≡ 0 → n % 2 ^ suc t ≡ 0
less-aligned n t j h none =
    let e : j ≡ (j - suc t) + suc t = omega arith in
    let whole : n % 2 ^ ((j - suc t) + suc t) ≡ 0 = ap (λ x. n % 2 ^ x) (sym e) ∙ none in
    let split : n % 2 ^ ((j - suc t) + suc t) ≡ n / 2 ^ suc t % 2 ^ (j - suc t) * 2 ^ suc t + n % 2 ^ suc t = mod-pow-add n (j - suc t) (suc t) in
    omega arith

-- an odd multiple of a power and that power make a multiple of the doubled power
next-aligned : (n t : ℕ) → n % 2 ^ t ≡ 0 → (n % 2 ^ suc t ≡ 0 → ⊥) → (n + 2 ^ t) % 2 ^ suc t ≡ 0
next-aligned n t low odd =
    let e : suc t ≡ 1 + t = omega arith in
    let split : n % 2 ^ (1 + t) ≡ n / 2 ^ t % 2 ^ 1 * 2 ^ t + n % 2 ^ t = mod-pow-add n 1 t in
    let here : n % 2 ^ suc t ≡ n / 2 ^ t % 2 ^ 1 * 2 ^ t + n % 2 ^ t = ap (λ j. n % 2 ^ j) e ∙ split in
    let double : 2 ^ suc t ≡ 2 ^ t * 2 = pow-suc 2 t in
    let half : n % 2 ^ suc t ≡ 2 ^ t = pick (n / 2 ^ t % 2 ^ 1) (mod_below (n / 2 ^ t) (2 ^ 1) (omega arith)) here in
    let parts : n / 2 ^ suc t * 2 ^ suc t + n % 2 ^ suc t ≡ n = div-add-mod' n (2 ^ suc t) in
    let total : n + 2 ^ t ≡ (n / 2 ^ suc t + 1) * 2 ^ suc t = omega arith in
    ap (λ x. x % 2 ^ suc t) total ∙ mul-mod_left (n / 2 ^ suc t + 1) (2 ^ suc t) where
      pick : (b : ℕ) → b < 2 ^ 1 → n % 2 ^ suc t ≡ b * 2 ^ t + n % 2 ^ t → n % 2 ^ suc t ≡ 2 ^ t
      pick zero h f = absurd (odd (omega arith))
      pick (suc zero) h f = omega arith
      pick (suc (suc b)) h f = absurd (omega arith)

same-aligned : (n t : ℕ) → n % 2 ^ t ≡ 0 → (n + 2 ^ t) % 2 ^ t ≡ 0
same-aligned n t low =
    let parts : n / 2 ^ t * 2 ^ t + n % 2 ^ t ≡ n = div-add-mod' n (2 ^ t) in
    let total : n + 2 ^ t ≡ (n / 2 ^ t + 1) * 2 ^ t = omega arith in
    ap (λ x. x % 2 ^ t) total ∙ mul-mod_left (n / 2 ^ t + 1) (2 ^ t)

-- ---- one block and the rest

length-first : (low high bits k : ℕ) → low ≤ high → free_bits low high bits ≡ k → length (blocks low high bits) ≡ suc (length (blocks (low + 2 ^ k) high bits))
length-first low high bits k h e = ap length (blocks-first low high bits h) ∙ ap (λ j. suc (length (blocks (low + 2 ^ j) high bits))) e

length-none : (low high bits : ℕ) → high < low → length (blocks low high bits) ≡ 0
length-none low high bits h = ap length (blocks-none low high bits h)

-- if the block of k free bits starts at the base, and the one twice as large is too large
free-up_to : (low high bits k : ℕ) → k ≤ bits → low % 2 ^ k ≡ 0 → low + 2 ^ k ≤ high + 1 → high + 1 < low + 2 ^ suc k → free_bits low high bits ≡ k
free-up_to low high bits k within aligned fits small =
    greatest-is (is_block low high) bits k within (inl (block-passes low high k aligned fits)) (λ j a b. block-too_large low high j k a small)

-- ---- at most two blocks for each bit

-- From a place aligned at 2 ^ k on, fewer than 2 ^ k values have at most k blocks. Each is smaller
-- than the one before.
descending : (k low high bits : ℕ) → k ≤ bits → low % 2 ^ k ≡ 0 → high + 1 < low + 2 ^ k → length (blocks low high bits) ≤ k
descending zero low high bits within aligned small = let e = length-none low high bits (omega arith) in omega arith
descending (suc k) low high bits within aligned small =
    go (cases_lt high low) (cases_lt (high + 1) (low + 2 ^ k)) (λ s. descending k low high bits (omega arith) (half-aligned low k aligned) s)
    (descending k (low + 2 ^ k) high bits (omega arith) (same-aligned low k (half-aligned low k aligned)) (omega (arith, pow-suc 2 k))) where
      go : (high < low) ⊎ (low ≤ high) → (high + 1 < low + 2 ^ k) ⊎ (low + 2 ^ k ≤ high + 1) → (high + 1 < low + 2 ^ k → length (blocks low high bits) ≤ k)
          → length (blocks (low + 2 ^ k) high bits) ≤ k → length (blocks low high bits) ≤ suc k
      go (inl h) s ih rest = let e = length-none low high bits h in omega arith
      go (inr h) (inl s) ih rest = let x = ih s in omega arith
      go (inr h) (inr s) ih rest =
          let e = length-first low high bits k h (free-up_to low high bits k (omega arith) (half-aligned low k aligned) s small) in
          omega arith

-- From a place aligned at 2 ^ t on, the blocks grow by at least one bit each, and then they shrink.
ascending : (m low high bits t : ℕ) → m + t ≡ bits → 1 ≤ bits → low % 2 ^ t ≡ 0 → high < 2 ^ bits → length (blocks low high bits) ≤ m + bits
ascending zero low high bits t e some aligned fits = go (cases_lt high low) (cases_lt (high + 1) (low + 2 ^ t)) where
  go : (high < low) ⊎ (low ≤ high) → (high + 1 < low + 2 ^ t) ⊎ (low + 2 ^ t ≤ high + 1) → length (blocks low high bits) ≤ zero + bits
  go (inl h) s = let x = length-none low high bits h in omega arith
  go (inr h) (inl s) = let x = descending t low high bits (omega arith) aligned s in omega arith
  go (inr h) (inr s) =
      let same : 2 ^ t ≡ 2 ^ bits = ap (λ j. 2 ^ j) (let q : t ≡ bits = omega arith in q) in
      let free : free_bits low high bits ≡ t = greatest-is (is_block low high) bits t (omega arith) (inl (block-passes low high t aligned s)) (λ j a b. absurd (omega arith)) in
      let x = length-first low high bits t h free in
      let rest = length-none (low + 2 ^ t) high bits (omega arith) in
      omega arith
ascending (suc m) low high bits t e some aligned fits =
    go (cases_lt high low) (cases_lt (high + 1) (low + 2 ^ t)) (cases_eq (low % 2 ^ suc t) 0)
    (λ a. ascending m low high bits (suc t) (omega arith) some a fits) (λ a. ascending m (low + 2 ^ t) high bits (suc t) (omega arith) some a fits) where
      go : (high < low) ⊎ (low ≤ high) → (high + 1 < low + 2 ^ t) ⊎ (low + 2 ^ t ≤ high + 1) → (low % 2 ^ suc t ≡ 0) ⊎ (low % 2 ^ suc t ≡ 0 → ⊥)
          → (low % 2 ^ suc t ≡ 0 → length (blocks low high bits) ≤ m + bits) → ((low + 2 ^ t) % 2 ^ suc t ≡ 0 → length (blocks (low + 2 ^ t) high bits) ≤ m + bits)
          → length (blocks low high bits) ≤ suc m + bits
      go (inl h) s a ih rest = let x = length-none low high bits h in omega arith
      go (inr h) (inl s) a ih rest = let x = descending t low high bits (omega arith) aligned s in omega arith
      go (inr h) (inr s) (inl a) ih rest = let x = ih a in omega arith
      go (inr h) (inr s) (inr a) ih rest =
          let free : free_bits low high bits ≡ t =
          greatest-is (is_block low high) bits t (omega arith) (inl (block-passes low high t aligned s)) (λ j b d. block-unaligned low high j (λ z. a (less-aligned low t j b z))) in
          let x = length-first low high bits t h free in
          let y = rest (next-aligned low t aligned a) in
          omega arith

pub length-few : (low high bits : ℕ) → IsFieldInterval low high bits → length (blocks low high bits) ≤ 2 * bits
length-few low high bits good = let x = ascending bits low high bits 0 (omega arith) good.some (mod-one low) good.below in omega arith

pub length-some : (low high bits : ℕ) → low ≤ high → 1 ≤ length (blocks low high bits)
length-some low high bits h = let e = length-first low high bits (free_bits low high bits) h (let x : free_bits low high bits ≡ free_bits low high bits = omega arith in x) in omega arith

-- all values of a field are one block
pub length-whole : (low high bits : ℕ) → IsFieldInterval low high bits → low ≡ 0 → high + 1 ≡ 2 ^ bits → length (blocks low high bits) ≡ 1
length-whole low high bits good none all =
    let aligned : low % 2 ^ bits ≡ 0 = omega arith in
    let free : free_bits low high bits ≡ bits = greatest-is (is_block low high) bits bits (omega arith) (inl (block-passes low high bits aligned (omega arith))) (λ j a b. absurd (omega arith)) in
    let x = length-first low high bits bits good.order free in
    let rest = length-none (low + 2 ^ bits) high bits (omega arith) in
    omega arith
