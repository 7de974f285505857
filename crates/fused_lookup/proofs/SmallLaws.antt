-- A number of 128 bits as a row.
use Rattle.std.proofs.Common.{◌≡◌, refl, sym, ◌∙◌, ap, ℕ, ◌+◌, ◌-◌, ◌*◌, ◌/◌, ◌%◌, ◌^◌, ◌<◌, ◌≤◌, ◌⊎◌, inl, inr, Bool, true, false, ◌&&◌, ◌||◌, nat_le, length, bit_and, bit_or, ◌==◌, arith}
use Rattle.std.proofs.lemmas.Bool.{cases_lt}
use Rattle.std.proofs.lemmas.Bool.Decides.{nat_tests}
use Rattle.std.proofs.lemmas.List.{get_or_past, ext_get_or}
use Rattle.std.proofs.lemmas.List.FromFn.{length-map-range_with_len, get_or-map-range_with_len}
use Rattle.std.proofs.lemmas.Nat.Bits.{ones_shr, ones_shl, bit_at_cat_low, bit_at_mask_below, bit_at_mask_inside}
use Rattle.std.proofs.lemmas.Nat.{div-add-mod'}
use Rattle.std.specs.Int.{bit_at}
use Rattle.bit_rows.specs.Row.{at, bit, lies, with_run}
use Rattle.bit_rows.proofs.Bits.{bit-and, bit-or, bit-shr, bit-ones, bit-zero}
use Rattle.bit_rows.proofs.Rows.{at-run, length-run}
use Rattle.fused_lookup.specs.Filled.{IsClear}
use Rattle.fused_lookup.specs.Words.{IsLeft, small_row}

pub length-small : (row : ℕ) → length (small_row row) ≡ 128
length-small row = length-map-range_with_len (bit row) 0 128

pub small-at : (row k : ℕ) → k < 128 → at (small_row row) k ≡ bit row k
small-at row k h = get_or-map-range_with_len (bit row) 0 128 k k false h (omega arith)

-- Past its 128 rules nothing is set.
pub small-past : (row k : ℕ) → 128 ≤ k → at (small_row row) k ≡ false
small-past row k h = get_or_past (small_row row) k false (omega (arith, length-small row))

-- no rule
pub zero-clear : IsClear (small_row 0)
zero-clear = record { places = λ i. go i (cases_lt i 128) } where
  go : (i : ℕ) → (i < 128) ⊎ (128 ≤ i) → at (small_row 0) i ≡ false
  go i (inl l) = small-at 0 i l ∙ bit-zero i
  go i (inr l) = small-past 0 i l

low-bit : (row k : ℕ) → k < 64 → bit (row % 2 ^ 64) k ≡ bit row k
unfolding bit
low-bit row k h = ap (λ n. n == 1) (sym (bit_at_cat_low (row / 2 ^ 64) 64 (row % 2 ^ 64) k h) ∙ ap (λ n. bit_at n k) (div-add-mod' row (2 ^ 64)))

-- the first and the last 64 rules of a row, which may be left
pub low-left : (n row word : ℕ) → word ≡ row % 2 ^ 64 → IsLeft n (small_row row) 0 word
low-left n row word is = record { bits = λ k h l. ap (λ w. bit w k) is ∙ low-bit row k h ∙ sym (small-at row (64 * 0 + k) (omega arith) ∙ ap (bit row) (same k)) } where
  same : (k : ℕ) → 64 * 0 + k ≡ k
  same k = omega arith

pub high-left : (n row word : ℕ) → word ≡ row / 2 ^ 64 → IsLeft n (small_row row) 1 word
high-left n row word is = record { bits = λ k h l. ap (λ w. bit w k) is ∙ bit-shr row 64 k ∙ sym (small-at row (64 * 1 + k) (omega arith) ∙ ap (bit row) (same k)) } where
  same : (k : ℕ) → 64 * 1 + k ≡ 64 + k
  same k = omega arith

-- the ones from `low` up to 128
high-ones : (low k : ℕ) → k < 128 → bit (2 ^ 128 - 2 ^ low) k ≡ nat_le low k
unfolding bit
high-ones low k h = elim (cases_lt k low) [
  | inl l ↦ ap (λ x. x == 1) (bit_at_mask_below low 128 k l) ∙ grind (arith, nat_tests)
  | inr l ↦ ap (λ x. x == 1) (bit_at_mask_inside low 128 k l h) ∙ grind (arith, nat_tests)
]

-- the ones from `low` up to `high`
ones-bit : (low high k : ℕ) → low < 128 → high ≤ 128 → k < 128 → bit (bit_and ((2 ^ 128 - 1) * 2 ^ low % 2 ^ 128) ((2 ^ 128 - 1) / 2 ^ (128 - high))) k ≡ lies low high k
ones-bit low high k a b h =
    let left : (2 ^ 128 - 1) * 2 ^ low % 2 ^ 128 ≡ 2 ^ 128 - 2 ^ low = ones_shl 128 low (omega arith) in
    let back : 128 - (128 - high) ≡ high = omega arith in
    let right : (2 ^ 128 - 1) / 2 ^ (128 - high) ≡ 2 ^ high - 1 = ones_shr 128 (128 - high) (omega arith) ∙ ap (λ n. 2 ^ n - 1) back in
    bit-and _ _ k ∙ join (ap (λ x. bit x k) left ∙ high-ones low k h) (ap (λ x. bit x k) right ∙ bit-ones high k) where
      join : {p q r s : Bool} → p ≡ q → r ≡ s → (p && r) ≡ (q && s)
      join e f = cc

-- a row with n more rules
pub small-run : (row from n : ℕ) → 0 < n → from + n ≤ 128 → small_row (bit_or row (bit_and ((2 ^ 128 - 1) * 2 ^ from % 2 ^ 128) ((2 ^ 128 - 1) / 2 ^ (128 - (from + n))))) ≡ with_run (small_row row) from n
small-run row from n some within =
    let ones = bit_and ((2 ^ 128 - 1) * 2 ^ from % 2 ^ 128) ((2 ^ 128 - 1) / 2 ^ (128 - (from + n))) in
    let more = bit_or row ones in
    let l = length-small row in
    ext_get_or false (small_row more) (with_run (small_row row) from n) (length-small more ∙ sym (length-run (small_row row) from n (omega arith) ∙ l))
    (λ i h.
    let m = length-small more in
    let inside : i < 128 = omega arith in
    small-at more i inside ∙ bit-or row ones i
    ∙ ap (λ t. bit row i || t) (ones-bit from (from + n) i (omega arith) within inside)
    ∙ ap (λ t. t || lies from (from + n) i) (sym (small-at row i inside))
    ∙ sym (at-run (small_row row) from n i (omega arith)))

-- a row with no more rules
pub small-no-run : (row from : ℕ) → from ≤ 128 → small_row row ≡ with_run (small_row row) from 0
small-no-run row from within =
    let l = length-small row in
    ext_get_or false (small_row row) (with_run (small_row row) from 0) (sym (length-run (small_row row) from 0 (omega arith)))
    (λ i h. sym (at-run (small_row row) from 0 i (omega arith) ∙ ap (λ t. at (small_row row) i || t) (none i) ∙ or-none (at (small_row row) i))) where
      none : (i : ℕ) → lies from (from + 0) i ≡ false
      none i = grind (arith, nat_tests)

      or-none : (b : Bool) → (b || false) ≡ b
      or-none true = refl
      or-none false = refl
