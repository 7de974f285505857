-- Bits of words, and a list of bools over words.
use Rattle.std.proofs.Common.{◌≡◌, refl, sym, ◌∙◌, ap, ℕ, zero, suc, ◌+◌, ◌-◌, ◌*◌, ◌/◌, ◌%◌, ◌^◌, ◌<◌, ◌≤◌, ◌≢◌, ◌⊎◌, min, max, Bool, true, false, ◌&&◌, ◌||◌, nat_le, nat_lt, ◌==◌, List, ◌++◌, length, get_or, bit_and, bit_or, arith, w64, inl, inr}
use Rattle.std.specs.Int.{bit_at, trailing_zeros}
use Rattle.std.proofs.lemmas.Bool.{cases_lt, le-leb, lt-leb}
use Rattle.std.proofs.lemmas.Bool.Decides.{nat_tests}
use Rattle.std.proofs.lemmas.List.{get_or_past, get_or_append_left, get_or-append_right, ext_get_or}
use Rattle.std.proofs.lemmas.List.FromFn.{length-map-range_with_len, get_or-map-range_with_len}
use Rattle.std.proofs.lemmas.Nat.Bits.{bit_at_and, bit_at_or, bit_at-lt, bit_at-zero, bit_at_ones, bit_at_ones_above, bit_at_mask_inside, bit_at_mask_below, ones_shr, ones_shl, bit_at-trailing_zeros, shr_and_one, bit_at_above, bit_at_cat_low, bit_at_cat_high}
use Rattle.std.proofs.lemmas.Nat.{shr-shr, one_shl, div-add-mod', pow_pos}
use Rattle.bit_rows.specs.Row.{bit, at}
use Rattle.bit_rows.specs.Words.{bit_in, first_bits, IsRow}

-- ---- one word

one_min : (x y : ℕ) → x < 2 → y < 2 → (min x y == 1) ≡ (x == 1 && y == 1)
one_min zero y h k = grind (arith, nat_tests)
one_min (suc zero) zero h k = refl
one_min (suc zero) (suc zero) h k = refl
one_min (suc zero) (suc (suc y)) h k = absurd (omega arith)
one_min (suc (suc x)) y h k = absurd (omega arith)

one_max : (x y : ℕ) → x < 2 → y < 2 → (max x y == 1) ≡ (x == 1 || y == 1)
one_max zero zero h k = refl
one_max zero (suc zero) h k = refl
one_max zero (suc (suc y)) h k = absurd (omega arith)
one_max (suc zero) zero h k = refl
one_max (suc zero) (suc zero) h k = refl
one_max (suc zero) (suc (suc y)) h k = absurd (omega arith)
one_max (suc (suc x)) y h k = absurd (omega arith)

pub bit-and : (a b k : ℕ) → bit (bit_and a b) k ≡ (bit a k && bit b k)
unfolding bit
bit-and a b k = ap (λ n. n == 1) (bit_at_and a b k) ∙ one_min (bit_at a k) (bit_at b k) (bit_at-lt a k) (bit_at-lt b k)

pub bit-or : (a b k : ℕ) → bit (bit_or a b) k ≡ (bit a k || bit b k)
unfolding bit
bit-or a b k = ap (λ n. n == 1) (bit_at_or a b k) ∙ one_max (bit_at a k) (bit_at b k) (bit_at-lt a k) (bit_at-lt b k)

pub bit-zero : (k : ℕ) → bit 0 k ≡ false
unfolding bit
bit-zero k = ap (λ n. n == 1) (bit_at-zero k)

pub bit-shr : (a n k : ℕ) → bit (a / 2 ^ n) k ≡ bit a (n + k)
unfolding bit
bit-shr a n k = ap (λ x. x % 2 == 1) (shr-shr a n k)

pub bit-above : (a k : ℕ) → a < 2 ^ 64 → 64 ≤ k → bit a k ≡ false
unfolding bit
bit-above a k h l = ap (λ x. x == 1) (bit_at_above a 64 k h l)

at_mod : (x k : ℕ) → k < 64 → bit_at (x % 2 ^ 64) k ≡ bit_at x k
at_mod x k h = sym (bit_at_cat_low (x / 2 ^ 64) 64 (x % 2 ^ 64) k h) ∙ ap (λ n. bit_at n k) (div-add-mod' x (2 ^ 64))

at_shl : (a n k : ℕ) → (k < n) ⊎ (n ≤ k) → (bit_at (a * 2 ^ n) k == 1) ≡ (nat_le n k && (bit_at a (k - n) == 1))
at_shl a n k (inl h) =
    let none : a * 2 ^ n ≡ a * 2 ^ n + 0 = omega arith in
    ap (λ x. bit_at x k == 1) none ∙ ap (λ x. x == 1) (bit_at_cat_low a n 0 k h ∙ bit_at-zero k) ∙ sym (ap (λ t. t && (bit_at a (k - n) == 1)) (lt-leb n k h))
at_shl a n k (inr h) =
    let none : a * 2 ^ n ≡ a * 2 ^ n + 0 = omega arith in
    ap (λ x. bit_at x k == 1) none ∙ ap (λ x. x == 1) (bit_at_cat_high a n 0 k (pow_pos n) h) ∙ sym (ap (λ t. t && (bit_at a (k - n) == 1)) (le-leb n k h))

pub bit-shl : (a n k : ℕ) → k < 64 → bit (a * 2 ^ n % 2 ^ 64) k ≡ (nat_le n k && bit a (k - n))
unfolding bit
bit-shl a n k h = ap (λ x. x == 1) (at_mod (a * 2 ^ n) k h) ∙ at_shl a n k (cases_lt k n)

-- all 64 ones
pub bit-ones : (n k : ℕ) → bit (2 ^ n - 1) k ≡ nat_lt k n
unfolding bit
bit-ones n k = elim (cases_lt k n) [
  | inl h ↦ ap (λ x. x == 1) (bit_at_ones n k h) ∙ grind (arith, nat_tests)
  | inr h ↦ ap (λ x. x == 1) (bit_at_ones_above n k h) ∙ grind (arith, nat_tests)
]

-- the ones from `low` up to 64
pub bit-high_ones : (low k : ℕ) → k < 64 → bit (2 ^ 64 - 2 ^ low) k ≡ nat_le low k
unfolding bit
bit-high_ones low k h = elim (cases_lt k low) [
  | inl l ↦ ap (λ x. x == 1) (bit_at_mask_below low 64 k l) ∙ grind (arith, nat_tests)
  | inr l ↦ ap (λ x. x == 1) (bit_at_mask_inside low 64 k l h) ∙ grind (arith, nat_tests)
]

pub mask-bit : (low high k : ℕ) → low < 64 → high ≤ 64 → k < 64
    → bit (bit_and ((2 ^ 64 - 1) * 2 ^ low % 2 ^ 64) ((2 ^ 64 - 1) / 2 ^ (64 - high))) k ≡ (nat_le low k && nat_lt k high)
mask-bit low high k a b h =
    let left : (2 ^ 64 - 1) * 2 ^ low % 2 ^ 64 ≡ 2 ^ 64 - 2 ^ low = ones_shl 64 low (omega arith) in
    let back : 64 - (64 - high) ≡ high = omega arith in
    let right : (2 ^ 64 - 1) / 2 ^ (64 - high) ≡ 2 ^ high - 1 = ones_shr 64 (64 - high) (omega arith) ∙ ap (λ n. 2 ^ n - 1) back in
    bit-and _ _ k ∙ join (ap (λ x. bit x k) left ∙ bit-high_ones low k h) (ap (λ x. bit x k) right ∙ bit-ones high k) where
      join : {p q r s : Bool} → p ≡ q → r ≡ s → (p && r) ≡ (q && s)
      join e f = cc

pub bit-shifted_ones : (low k : ℕ) → low < 64 → k < 64 → bit ((2 ^ 64 - 1) * 2 ^ low % 2 ^ 64) k ≡ nat_le low k
bit-shifted_ones low k a h = ap (λ x. bit x k) (ones_shl 64 low (omega arith)) ∙ bit-high_ones low k h

pub bit-low_ones : (low k : ℕ) → low < 64 → bit (1 * 2 ^ low % 2 ^ 64 - 1) k ≡ nat_lt k low
bit-low_ones low k a = ap (λ x. bit (x - 1) k) (one_shl low 64 a) ∙ bit-ones low k

pub lowest-bit : (word : ℕ) → word ≢ 0 → word < 2 ^ 64
    → (trailing_zeros w64 word < 64) × (bit word (trailing_zeros w64 word) ≡ true) × ((k : ℕ) → k < trailing_zeros w64 word → bit word k ≡ false)
unfolding bit
lowest-bit word some fits =
    let h = bit_at-trailing_zeros w64 word (omega arith) fits in
    (h.0, ap (λ x. x == 1) h.1, λ k l. ap (λ x. x == 1) (h.2 k l))

pub is_set-bit : (word k : ℕ) → (bit_and (word / 2 ^ k) 1 == 1) ≡ bit word k
unfolding bit
is_set-bit word k = ap (λ x. x == 1) (shr_and_one word k)

-- ---- places over words

pub place-at : (words : List ℕ) (w k : ℕ) → k < 64 → bit_in words (64 * w + k) ≡ bit (get_or words w 0) k
unfolding bit_in
place-at words w k h =
    let a : (64 * w + k) / 64 ≡ w = omega arith in
    let b : (64 * w + k) % 64 ≡ k = omega arith in
    rw (a, b)

pub place-is : (words : List ℕ) (i : ℕ) → bit_in words i ≡ bit (get_or words (i / 64) 0) (i % 64)
unfolding bit_in
place-is words i = refl

pub place-past : (words : List ℕ) (i : ℕ) → 64 * length words ≤ i → bit_in words i ≡ false
place-past words i h =
    place-is words i ∙ ap (λ w. bit w (i % 64)) (get_or_past words (i / 64) 0 (omega arith)) ∙ bit-zero (i % 64)

pub place-append_low : (xs ys : List ℕ) (i : ℕ) → i < 64 * length xs → bit_in (xs ++ ys) i ≡ bit_in xs i
place-append_low xs ys i h = place-is (xs ++ ys) i ∙ ap (λ w. bit w (i % 64)) (get_or_append_left xs ys 0 (i / 64) (omega arith)) ∙ sym (place-is xs i)

pub place-append_high : (xs ys : List ℕ) (i : ℕ) → 64 * length xs ≤ i → bit_in (xs ++ ys) i ≡ bit_in ys (i - 64 * length xs)
place-append_high xs ys i h =
    let word : i / 64 - length xs ≡ (i - 64 * length xs) / 64 = omega arith in
    let bit_is : i % 64 ≡ (i - 64 * length xs) % 64 = omega arith in
    place-is (xs ++ ys) i ∙ ap (λ w. bit w (i % 64)) (get_or-append_right xs ys (length xs) (i / 64) 0 refl (omega arith)) ∙ ap (λ w. bit (get_or ys w 0) (i % 64)) word
    ∙ ap (bit (get_or ys ((i - 64 * length xs) / 64) 0)) bit_is ∙ sym (place-is ys (i - 64 * length xs))

-- ---- the list over the words

pub length-bits : (words : List ℕ) (len : ℕ) → length (first_bits words len) ≡ len
unfolding first_bits
length-bits words len = length-map-range_with_len (bit_in words) 0 len

pub bits-at : (words : List ℕ) (len i : ℕ) → i < len → at (first_bits words len) i ≡ bit_in words i
unfolding first_bits
bits-at words len i h = get_or-map-range_with_len (bit_in words) 0 len i i false h (omega arith)

-- if the places from len on are clear, the list reads as the words at every place
pub bits-read : (words : List ℕ) (len : ℕ) → IsRow words len → (i : ℕ) → at (first_bits words len) i ≡ bit_in words i
bits-read words len row i = elim (cases_lt i len) [
  | inl h ↦ bits-at words len i h
  | inr h ↦ get_or_past (first_bits words len) i false (omega (arith, length-bits words len)) ∙ sym (row.clear i h)
]

-- a list that reads as the words do is the list over the words
pub bits-same : (words : List ℕ) (len : ℕ) (xs : List Bool) → length xs ≡ len → ((i : ℕ) → i < len → bit_in words i ≡ at xs i) → first_bits words len ≡ xs
bits-same words len xs l same =
    ext_get_or false (first_bits words len) xs (length-bits words len ∙ sym l)
    (λ i h. let within : i < len = omega (arith, length-bits words len) in bits-at words len i within ∙ same i within)

pub ruleset words = (mask-bit, is_set-bit)
