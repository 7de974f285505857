-- What windows have and leave out.
use Rattle.std.proofs.Common.{◌≡◌, refl, sym, ◌∙◌, ap, ℕ, ◌+◌, ◌-◌, ◌*◌, ◌/◌, ◌%◌, ◌^◌, ◌<◌, ◌≤◌, ◌⊎◌, inl, inr, Bool, true, false, ◌&&◌, ◌||◌, nat_le, nat_lt, List, length, bit_or, arith}
use Rattle.std.proofs.lemmas.Bool.{cases_lt, le-leb, lt-ltb}
use Rattle.bit_rows.specs.Row.{at, bit, with_run}
use Rattle.bit_rows.proofs.Bits.{bit-or, bit-shl, bit-ones}
use Rattle.bit_rows.proofs.Rows.{at-run}
use Rattle.bit_rows.proofs.Tests.{by-run, or-false, or-true}
use Rattle.fused_lookup.specs.declared.window.Window.{Window}
use Rattle.fused_lookup.specs.Filled.{IsClear}
use Rattle.fused_lookup.specs.Window.{is_touched, IsWindow, HasBlocks, IsWidened, AreUntouched}

-- ---- touched blocks

own-bit : (k : ℕ) → k < 64 → bit (1 * 2 ^ k % 2 ^ 64) k ≡ true
own-bit k h = bit-shl 1 k k h ∙ ap (λ t. nat_le k k && t) (bit-ones 1 (k - k)) ∙ ap (λ t. t && nat_lt (k - k) 1) (le-leb k k (omega arith)) ∙ lt-ltb (k - k) 1 (omega arith)

pub blocks-none : (touched first : ℕ) → HasBlocks touched first first touched
blocks-none touched first = record { kept = λ k on. on; added = λ b low high. absurd (omega arith) }

pub blocks-more : (old first b new : ℕ) → HasBlocks old first b new → HasBlocks old first (b + 1) (bit_or new (1 * 2 ^ (b % 64) % 2 ^ 64))
blocks-more old first b new so_far = record {
  kept = λ k on. stays k (so_far.kept k on);
  added = λ j low high. go j low high (cases_lt j b);
} where
  one : ℕ
  one = 1 * 2 ^ (b % 64) % 2 ^ 64

  stays : (k : ℕ) → bit new k ≡ true → bit (bit_or new one) k ≡ true
  stays k on = bit-or new one k ∙ ap (λ t. t || bit one k) on

  go : (j : ℕ) → first ≤ j → j < b + 1 → (j < b) ⊎ (b ≤ j) → bit (bit_or new one) (j % 64) ≡ true
  go j low high (inl l) = stays (j % 64) (so_far.added j low l)
  go j low high (inr l) =
      let e : j ≡ b = omega arith in
      ap (λ n. bit (bit_or new one) (n % 64)) e ∙ bit-or new one (b % 64) ∙ or-true (bit new (b % 64)) (bit one (b % 64)) (own-bit (b % 64) (omega arith))

-- the rest of a block that wasn't touched
pub untouched-more : (w : Window) (from i : ℕ) → AreUntouched w from i → is_touched w i ≡ false → AreUntouched w from ((i / 8 + 1) * 8)
untouched-more w from i so_far unset = λ j low high. go j low high (cases_lt j i) where
  go : (j : ℕ) → from ≤ j → j < (i / 8 + 1) * 8 → (j < i) ⊎ (i ≤ j) → is_touched w j ≡ false
  go j low high (inl l) = so_far j low l
  go j low high (inr l) = let e : j / 8 ≡ i / 8 = omega arith in ap (λ b. bit w.touched (b % 64)) e ∙ unset

-- ---- the rows of windows

not-kept : (before now : Bool) → (before ≡ true → now ≡ true) → now ≡ false → before ≡ false
not-kept true now kept off = let e : false ≡ true = sym off ∙ kept refl in absurd (cc e)
not-kept false now kept off = refl

-- the window of a row after a run of places is set
pub window-run : (old new : List Bool) (w v : Window) (from n : ℕ) → from + n ≤ length old → new ≡ with_run old from n → length new ≡ length old → IsWidened w from n v → IsWindow old w → IsWindow new v
window-run old new w v from n inside made long wide is = record {
  below = λ i h. unset i (is.below i (let a = wide.first in omega arith)) (λ p q. let some : 0 < n = omega arith in let b = wide.low some in omega arith);
  above = λ i h. unset i (is.above i (let a = wide.end in omega arith)) (λ p q. let some : 0 < n = omega arith in let b = wide.high some in omega arith);
  apart = λ i off.
      unset i (is.apart i (not-kept (is_touched w (i / 64)) (is_touched v (i / 64)) (wide.kept (i / 64)) off)) (λ p q. let e : false ≡ true = sym off ∙ wide.added i p q in absurd (cc e));
  within = let a = wide.least in let b = is.within in omega arith;
} where
  unset : (i : ℕ) → at old i ≡ false → (from ≤ i → i < from + n → ⊥) → at new i ≡ false
  unset i none out =
      let same : (at old i || false) ≡ false = or-false (at old i) false refl ∙ none in
      ap (λ xs. at xs i) made ∙ at-run old from n i inside ∙ by-run from (from + n) i (λ t. (at old i || t) ≡ false) (λ p q. absurd (out p q)) (λ p. same) (λ p. same)

-- a row that is clear has any window without words
pub clear-window : (bits : List Bool) (w : Window) → w.end ≡ 0 → IsClear bits → IsWindow bits w
clear-window bits w none clear = record {
  below = λ i h. clear.places i;
  above = λ i h. clear.places i;
  apart = λ i off. clear.places i;
  within = omega arith;
}

-- nothing is set in words that weren't touched
pub unset-between : (row : List Bool) (w : Window) (from to : ℕ) → IsWindow row w → AreUntouched w from to → (p : ℕ) → 64 * from ≤ p → p < 64 * to → at row p ≡ false
unset-between row w from to is none p low high = is.apart p (none (p / 64) (omega arith) (omega arith))

-- nothing is set after the last touched word
pub unset-rest : (row : List Bool) (w : Window) (from : ℕ) → IsWindow row w → AreUntouched w from w.end → (p : ℕ) → 64 * from ≤ p → at row p ≡ false
unset-rest row w from is none p low = go (cases_lt p (64 * w.end)) where
  go : (p < 64 * w.end) ⊎ (64 * w.end ≤ p) → at row p ≡ false
  go (inl l) = unset-between row w from w.end is none p low l
  go (inr l) = is.above p l
