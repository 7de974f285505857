-- Runs of numbers, and equations of bools.
use Rattle.std.proofs.Common.{◌≡◌, refl, sym, ◌∙◌, ap, subst, ℕ, ◌*◌, ◌/◌, ◌<◌, ◌≤◌, ◌⊎◌, Bool, true, false, cond, ◌&&◌, ◌||◌, nat_le, nat_lt, arith, inl, inr}
use Rattle.std.proofs.lemmas.Bool.{cases_lt, le-leb, lt-leb, lt-ltb, le-ltb}
use Rattle.bit_rows.specs.Row.{lies}

pub and-false : (p q : Bool) → q ≡ false → (p && q) ≡ false
and-false true q e = e
and-false false q e = refl

pub and-true : (p q : Bool) → q ≡ true → (p && q) ≡ p
and-true true q e = e
and-true false q e = refl

pub or-false : (p q : Bool) → q ≡ false → (p || q) ≡ p
or-false true q e = refl
or-false false q e = e

pub or-true : (p q : Bool) → q ≡ true → (p || q) ≡ true
or-true true q e = refl
or-true false q e = e

pub both-same : {p q r t : Bool} → p ≡ q → r ≡ t → (p && r) ≡ (q && t)
both-same e f = cc

pub either-same : {p q r t : Bool} → p ≡ q → r ≡ t → (p || r) ≡ (q || t)
either-same e f = cc

pub cond-or : (t p : Bool) → cond t true p ≡ (p || t)
cond-or true true = refl
cond-or true false = refl
cond-or false true = refl
cond-or false false = refl

-- ---- the place of a number relative to a run

pub lies-in : (from to i : ℕ) → from ≤ i → i < to → lies from to i ≡ true
lies-in from to i h k = ap (λ t. t && nat_lt i to) (le-leb from i h) ∙ lt-ltb i to k

pub lies-below : (from to i : ℕ) → i < from → lies from to i ≡ false
lies-below from to i h = ap (λ t. t && nat_lt i to) (lt-leb from i h)

pub lies-above : (from to i : ℕ) → to ≤ i → lies from to i ≡ false
lies-above from to i h = and-false (nat_le from i) (nat_lt i to) (le-ltb i to h)

-- what holds inside a run and outside it holds anywhere
pub by-run : (from to i : ℕ) (P : Bool → Type 0) → (from ≤ i → i < to → P true) → (i < from → P false) → (to ≤ i → P false) → P (lies from to i)
by-run from to i P inside below above = go (cases_lt i from) (cases_lt i to) where
  move : (a b : Bool) → a ≡ b → P b → P a
  move a b e h = let Q : Bool → Type 0 = P in subst Q (sym e) h

  go : (i < from) ⊎ (from ≤ i) → (i < to) ⊎ (to ≤ i) → P (lies from to i)
  go (inl h) k = move (lies from to i) false (lies-below from to i h) (below h)
  go (inr h) (inl k) = move (lies from to i) true (lies-in from to i h k) (inside h k)
  go (inr h) (inr k) = move (lies from to i) false (lies-above from to i k) (above k)

-- two runs in a row are one
pub lies-join : (p : Bool) (a b c i : ℕ) → a ≤ b → b ≤ c → ((p || lies a b i) || lies b c i) ≡ (p || lies a c i)
lies-join p a b c i h k = go (cases_lt i b) where
  same_low : i < b → lies a b i ≡ lies a c i
  same_low l = ap (λ t. nat_le a i && t) (lt-ltb i b l ∙ sym (lt-ltb i c (omega arith)))

  same_high : b ≤ i → lies b c i ≡ lies a c i
  same_high l = ap (λ t. t && nat_lt i c) (le-leb b i l ∙ sym (le-leb a i (omega arith)))

  go : (i < b) ⊎ (b ≤ i) → ((p || lies a b i) || lies b c i) ≡ (p || lies a c i)
  go (inl l) = or-false (p || lies a b i) (lies b c i) (lies-below b c i l) ∙ ap (λ t. p || t) (same_low l)
  go (inr l) = ap (λ t. t || lies b c i) (or-false p (lies a b i) (lies-above a b i l)) ∙ ap (λ t. p || t) (same_high l)

-- the words of a run are a run of places
pub lies-words : (a b i : ℕ) → lies a b (i / 64) ≡ lies (64 * a) (64 * b) i
lies-words a b i = both-same (front (cases_lt (i / 64) a)) (back (cases_lt (i / 64) b)) where
  front : (i / 64 < a) ⊎ (a ≤ i / 64) → nat_le a (i / 64) ≡ nat_le (64 * a) i
  front (inl h) = lt-leb a (i / 64) h ∙ sym (lt-leb (64 * a) i (omega arith))
  front (inr h) = le-leb a (i / 64) h ∙ sym (le-leb (64 * a) i (omega arith))

  back : (i / 64 < b) ⊎ (b ≤ i / 64) → nat_lt (i / 64) b ≡ nat_lt i (64 * b)
  back (inl h) = lt-ltb (i / 64) b h ∙ sym (lt-ltb i (64 * b) (omega arith))
  back (inr h) = le-ltb (i / 64) b h ∙ sym (le-ltb i (64 * b) (omega arith))
