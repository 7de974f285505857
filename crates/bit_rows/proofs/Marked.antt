-- A word whose bits are set one after another.
use Rattle.std.proofs.Common.{◌≡◌, refl, sym, ◌∙◌, ap, ℕ, ◌+◌, ◌-◌, ◌*◌, ◌%◌, ◌^◌, ◌<◌, ◌≤◌, ◌⊎◌, inl, inr, Bool, true, false, ◌&&◌, ◌||◌, nat_le, nat_lt, arith, bit_or}
use Rattle.std.proofs.lemmas.Bool.{cases_lt, lt-ltb, le-ltb}
use Rattle.std.proofs.lemmas.Bool.Decides.{nat_tests}
use Rattle.std.proofs.Math.Bool.{and-false}
use Rattle.bit_rows.specs.Row.{bit}
use Rattle.bit_rows.proofs.Bits.{bit-or, bit-shl, bit-zero, bit-ones}

pub bit-one : (k i : ℕ) → i < 64 → bit (1 * 2 ^ k % 2 ^ 64) i ≡ (nat_le k i && nat_lt (i - k) 1)
bit-one k i h = bit-shl 1 k i h ∙ ap (λ t. nat_le k i && t) (bit-ones 1 (i - k))

pub same_or_not : (a b : ℕ) → (a ≡ b) ⊎ ((a < b) ⊎ (b < a))
same_or_not a b = go (cases_lt a b) where
  back : (b ≤ a) → (b < a) ⊎ (a ≤ b) → (a ≡ b) ⊎ ((a < b) ⊎ (b < a))
  back h (inl l) = inr (inr l)
  back h (inr l) = inl (omega arith)

  go : (a < b) ⊎ (b ≤ a) → (a ≡ b) ⊎ ((a < b) ⊎ (b < a))
  go (inl h) = inr (inl h)
  go (inr h) = back h (cases_lt b a)

pub leb : (a b : ℕ) → a ≤ b → nat_le a b ≡ true
leb a b h = grind (arith, nat_tests)

pub not-leb : (a b : ℕ) → b < a → nat_le a b ≡ false
not-leb a b h = grind (arith, nat_tests)

-- the marks from `from` up to k of what passes
abbrev pub marks_to : (ℕ → Bool) → ℕ → ℕ → ℕ → Bool
marks_to s from k i = (nat_le from i && nat_lt i k) && s i

pub marks-none : (s : ℕ → Bool) (from i : ℕ) → bit 0 i ≡ marks_to s from from i
marks-none s from i = bit-zero i ∙ sym (ap (λ t. t && s i) (go (cases_lt i from))) where
  go : (i < from) ⊎ (from ≤ i) → (nat_le from i && nat_lt i from) ≡ false
  go (inl l) = ap (λ t. t && nat_lt i from) (not-leb from i l)
  go (inr l) = ap (λ t. nat_le from i && t) (le-ltb i from l) ∙ and-false (nat_le from i)

-- another place, whose mark is the same
same-test : (from k i : ℕ) → (i < k) ⊎ (k < i) → (nat_le from i && nat_lt i k) ≡ (nat_le from i && nat_lt i (k + 1))
same-test from k i (inl l) = ap (λ t. nat_le from i && t) (lt-ltb i k l ∙ sym (lt-ltb i (k + 1) (omega arith)))
same-test from k i (inr l) = ap (λ t. nat_le from i && t) (le-ltb i k (omega arith) ∙ sym (le-ltb i (k + 1) (omega arith)))

pub marks-off : (s : ℕ → Bool) (marks from k i : ℕ) → s k ≡ false → bit marks i ≡ marks_to s from k i → bit marks i ≡ marks_to s from (k + 1) i
marks-off s marks from k i off so_far = so_far ∙ go (same_or_not i k) where
  go : (i ≡ k) ⊎ ((i < k) ⊎ (k < i)) → marks_to s from k i ≡ marks_to s from (k + 1) i
  go (inl e) =
      let none : s i ≡ false = ap s e ∙ off in
      ap (λ t. (nat_le from i && nat_lt i k) && t) none ∙ and-false (nat_le from i && nat_lt i k)
      ∙ sym (ap (λ t. (nat_le from i && nat_lt i (k + 1)) && t) none ∙ and-false (nat_le from i && nat_lt i (k + 1)))
  go (inr other) = ap (λ t. t && s i) (same-test from k i other)

pub or-unset : (a b : Bool) → b ≡ false → (a || b) ≡ a
or-unset true b e = refl
or-unset false b e = e

pub or-set : (a b : Bool) → b ≡ true → (a || b) ≡ true
or-set true b e = refl
or-set false b e = e

pub marks-on : (s : ℕ → Bool) (marks from k i : ℕ) → from ≤ k → i < 64 → s k ≡ true → bit marks i ≡ marks_to s from k i → bit (bit_or marks (1 * 2 ^ k % 2 ^ 64)) i ≡ marks_to s from (k + 1) i
marks-on s marks from k i low h on so_far = bit-or marks (1 * 2 ^ k % 2 ^ 64) i ∙ go (same_or_not i k) where
  unset : (i < k) ⊎ (k < i) → bit (1 * 2 ^ k % 2 ^ 64) i ≡ false
  unset (inl l) = bit-one k i h ∙ ap (λ t. t && nat_lt (i - k) 1) (not-leb k i l)
  unset (inr l) = bit-one k i h ∙ ap (λ t. nat_le k i && t) (le-ltb (i - k) 1 (omega arith)) ∙ and-false (nat_le k i)

  go : (i ≡ k) ⊎ ((i < k) ⊎ (k < i)) → (bit marks i || bit (1 * 2 ^ k % 2 ^ 64) i) ≡ marks_to s from (k + 1) i
  go (inl e) =
      let set : bit (1 * 2 ^ k % 2 ^ 64) i ≡ true = bit-one k i h ∙ ap (λ t. t && nat_lt (i - k) 1) (leb k i (omega arith)) ∙ lt-ltb (i - k) 1 (omega arith) in
      or-set (bit marks i) (bit (1 * 2 ^ k % 2 ^ 64) i) set
      ∙ sym (ap (λ t. (t && nat_lt i (k + 1)) && s i) (leb from i (omega arith)) ∙ ap (λ t. t && s i) (lt-ltb i (k + 1) (omega arith)) ∙ ap s e ∙ on)
  go (inr other) = or-unset (bit marks i) (bit (1 * 2 ^ k % 2 ^ 64) i) (unset other) ∙ so_far ∙ ap (λ t. t && s i) (same-test from k i other)

pub marks-below : (s : ℕ → Bool) (k i : ℕ) → i < k → marks_to s 0 k i ≡ s i
marks-below s k i h = ap (λ t. (t && nat_lt i k) && s i) (leb 0 i (omega arith)) ∙ ap (λ t. t && s i) (lt-ltb i k h)

pub marks-eight : (s : ℕ → Bool) (i : ℕ) → marks_to s 0 8 i ≡ (nat_lt i 8 && s i)
marks-eight s i = ap (λ t. (t && nat_lt i 8) && s i) (leb 0 i (omega arith))
