-- Places over words, after each change of the words.
use Rattle.std.proofs.Common.{◌≡◌, refl, sym, ◌∙◌, ap, ℕ, ◌+◌, ◌-◌, ◌*◌, ◌/◌, ◌%◌, ◌^◌, ◌<◌, ◌≤◌, ◌≢◌, ◌⊎◌, Bool, true, false, cond, ◌&&◌, ◌||◌, nat_le, nat_lt, List, length, get_or, set, bit_and, bit_or, arith, inl, inr}
use Rattle.std.proofs.lemmas.Bool.{cases_lt, cases_eq, cond-true, cond-false, lt-ltb, le-ltb, le-leb, lt-leb, leb-true}
use Rattle.std.proofs.lemmas.List.{get_or-set_same, get_or-set_other}
use Rattle.bit_rows.specs.Row.{bit, lies}
use Rattle.bit_rows.specs.Words.{bit_in, IsNextPlace, IsWritten}
use Rattle.bit_rows.proofs.Tests.{and-true, or-false, both-same, either-same, cond-or, lies-in, lies-below, lies-above, by-run, lies-join, lies-words}
use Rattle.bit_rows.proofs.Bits.{place-is, place-at, bit-and, bit-or, bit-zero, bit-ones, bit-shr, bit-shl, bit-above, bit-low_ones, bit-shifted_ones}

-- ---- words that were written

cond-bit : (t : Bool) (a b k : ℕ) → bit (cond t a b) k ≡ cond t (bit a k) (bit b k)
cond-bit true a b k = refl
cond-bit false a b k = refl

written-place : (f : ℕ → ℕ) (from to : ℕ) (old new : List ℕ) (i : ℕ) → IsWritten f from to old new
    → bit_in new i ≡ cond (lies (64 * from) (64 * to) i) (bit (f (i / 64)) (i % 64)) (bit_in old i)
written-place f from to old new i w =
    place-is new i ∙ ap (λ x. bit x (i % 64)) (w.word (i / 64)) ∙ cond-bit _ (f (i / 64)) (get_or old (i / 64) 0) (i % 64)
    ∙ ap (λ b. cond (lies from to (i / 64)) (bit (f (i / 64)) (i % 64)) b) (sym (place-is old i))
    ∙ ap (λ t. cond t (bit (f (i / 64)) (i % 64)) (bit_in old i)) (lies-words from to i)

-- words that are all ones or all zeros
filled-bit : (bit_value : Bool) (k : ℕ) → k < 64 → bit (cond bit_value (2 ^ 64 - 1) 0) k ≡ bit_value
filled-bit true k h = bit-ones 64 k ∙ lt-ltb k 64 h
filled-bit false k h = bit-zero k

pub filled-places : (value : Bool) (word from to : ℕ) (old new : List ℕ) → word ≡ cond value (2 ^ 64 - 1) 0 → IsWritten (λ _. word) from to old new → (i : ℕ)
    → bit_in new i ≡ cond (lies (64 * from) (64 * to) i) value (bit_in old i)
filled-places value word from to old new e w i =
    written-place (λ _. word) from to old new i w
    ∙ ap (λ t. cond (lies (64 * from) (64 * to) i) t (bit_in old i)) (ap (λ x. bit x (i % 64)) e ∙ filled-bit value (i % 64) (omega arith))

-- words that an operation on each bit made
pub zipped-places : (op : ℕ → ℕ → ℕ) (test : Bool → Bool → Bool) (old other new : List ℕ) (n : ℕ) → ((a b k : ℕ) → bit (op a b) k ≡ test (bit a k) (bit b k))
    → IsWritten (λ k. op (get_or old k 0) (get_or other k 0)) 0 n old new → (i : ℕ)
    → bit_in new i ≡ cond (nat_lt i (64 * n)) (test (bit_in old i) (bit_in other i)) (bit_in old i)
zipped-places op test old other new n each w i =
    written-place (λ k. op (get_or old k 0) (get_or other k 0)) 0 n old new i w
    ∙ ap (λ t. cond (t && nat_lt i (64 * n)) (bit (op (get_or old (i / 64) 0) (get_or other (i / 64) 0)) (i % 64)) (bit_in old i)) (le-leb 0 i (omega arith))
    ∙ ap (λ t. cond (nat_lt i (64 * n)) t (bit_in old i)) (each (get_or old (i / 64) 0) (get_or other (i / 64) 0) (i % 64) ∙ two (sym (place-is old i)) (sym (place-is other i))) where
      two : {p q r t : Bool} → p ≡ q → r ≡ t → test p r ≡ test q t
      two x y = cc

-- ---- one word

place-set-same : (words : List ℕ) (w v i : ℕ) → w < length words → i / 64 ≡ w → bit_in (set words w v) i ≡ bit v (i % 64)
place-set-same words w v i within e = place-is (set words w v) i ∙ ap (λ k. bit (get_or (set words w v) k 0) (i % 64)) e ∙ ap (λ x. bit x (i % 64)) (get_or-set_same words w v 0 within)

place-set-other : (words : List ℕ) (w v i : ℕ) → i / 64 ≢ w → bit_in (set words w v) i ≡ bit_in words i
place-set-other words w v i e = place-is (set words w v) i ∙ ap (λ x. bit x (i % 64)) (get_or-set_other words w (i / 64) v 0 e) ∙ sym (place-is words i)

-- clearing one word
pub word-cleared : (words : List ℕ) (w : ℕ) → w < length words → (i : ℕ) → bit_in (set words w 0) i ≡ cond (lies (64 * w) (64 * (w + 1)) i) false (bit_in words i)
word-cleared words w within i = by-run (64 * w) (64 * (w + 1)) i (λ t. bit_in (set words w 0) i ≡ cond t false (bit_in words i))
    (λ h l. place-set-same words w 0 i within (omega arith) ∙ bit-zero (i % 64)) (λ h. place-set-other words w 0 i (omega arith)) (λ h. place-set-other words w 0 i (omega arith))

-- overwriting one word
pub word-put : (words : List ℕ) (w word : ℕ) → w < length words → (i : ℕ) → bit_in (set words w word) i ≡ cond (lies (64 * w) (64 * (w + 1)) i) (bit word (i - 64 * w)) (bit_in words i)
word-put words w word within i = by-run (64 * w) (64 * (w + 1)) i (λ t. bit_in (set words w word) i ≡ cond t (bit word (i - 64 * w)) (bit_in words i))
    (λ h l. let e : i % 64 ≡ i - 64 * w = omega arith in place-set-same words w word i within (omega arith) ∙ ap (bit word) e)
    (λ h. place-set-other words w word i (omega arith)) (λ h. place-set-other words w word i (omega arith))

-- setting bits of the one word that holds the places from a up to b
pub set-in-word : (words : List ℕ) (a b v m : ℕ) → a < b → b ≤ 64 * length words → (b - 1) / 64 ≡ a / 64 → v ≡ bit_or (get_or words (a / 64) 0) m
    → ((k : ℕ) → k < 64 → bit m k ≡ lies (a % 64) ((b - 1) % 64 + 1) k)
    → (i : ℕ) → bit_in (set words (a / 64) v) i ≡ (bit_in words i || lies a b i)
set-in-word words a b v m some within one e mask i = go (cases_eq (i / 64) (a / 64)) where
  front : i / 64 ≡ a / 64 → nat_le (a % 64) (i % 64) ≡ nat_le a i
  front h = elim (cases_lt i a) [
    | inl l ↦ lt-leb (a % 64) (i % 64) (omega arith) ∙ sym (lt-leb a i l)
    | inr l ↦ le-leb (a % 64) (i % 64) (omega arith) ∙ sym (le-leb a i l)
  ]

  back : i / 64 ≡ a / 64 → nat_lt (i % 64) ((b - 1) % 64 + 1) ≡ nat_lt i b
  back h = elim (cases_lt i b) [
    | inl l ↦ lt-ltb (i % 64) ((b - 1) % 64 + 1) (omega arith) ∙ sym (lt-ltb i b l)
    | inr l ↦ le-ltb (i % 64) ((b - 1) % 64 + 1) (omega arith) ∙ sym (le-ltb i b l)
  ]

  outside : i / 64 ≢ a / 64 → lies a b i ≡ false
  outside h = elim (cases_lt i a) [
    | inl l ↦ lies-below a b i l
    | inr l ↦ lies-above a b i (omega arith)
  ]

  go : (i / 64 ≡ a / 64) ⊎ (i / 64 ≢ a / 64) → bit_in (set words (a / 64) v) i ≡ (bit_in words i || lies a b i)
  go (inl h) =
      place-set-same words (a / 64) v i (omega arith) h ∙ ap (λ x. bit x (i % 64)) e ∙ bit-or (get_or words (a / 64) 0) m (i % 64)
      ∙ ap (λ t. bit (get_or words (a / 64) 0) (i % 64) || t) (mask (i % 64) (omega arith) ∙ both-same (front h) (back h))
      ∙ ap (λ t. t || lies a b i) (sym (place-is words i ∙ ap (λ k. bit (get_or words k 0) (i % 64)) h))
  go (inr h) = place-set-other words (a / 64) v i h ∙ sym (or-false (bit_in words i) (lies a b i) (outside h))

-- ---- 64 places from anywhere

pub joined-bits : (low high by k : ℕ) → by < 64 → k < 64
    → bit (bit_or (low / 2 ^ by) (high * 2 ^ 1 % 2 ^ 64 * 2 ^ (63 - by) % 2 ^ 64)) k ≡ (bit low (by + k) || (nat_le 64 (by + k) && bit high (by + k - 64)))
joined-bits low high by k within h =
    bit-or _ _ k ∙ either-same (bit-shr low by k) (bit-shl (high * 2 ^ 1 % 2 ^ 64) (63 - by) k h ∙ ap (λ t. nat_le (63 - by) k && t) (bit-shl high 1 (k - (63 - by)) (omega arith)) ∙ shifted (cases_lt (by + k) 64)) where
      shifted : (by + k < 64) ⊎ (64 ≤ by + k) → (nat_le (63 - by) k && (nat_le 1 (k - (63 - by)) && bit high (k - (63 - by) - 1))) ≡ (nat_le 64 (by + k) && bit high (by + k - 64))
      shifted (inl l) =
          ap (λ t. nat_le (63 - by) k && (t && bit high (k - (63 - by) - 1))) (lt-leb 1 (k - (63 - by)) (omega arith)) ∙ none (nat_le (63 - by) k)
          ∙ sym (ap (λ t. t && bit high (by + k - 64)) (lt-leb 64 (by + k) l)) where
            none : (p : Bool) → (p && false) ≡ false
            none true = refl
            none false = refl
      shifted (inr l) =
          let e : k - (63 - by) - 1 ≡ by + k - 64 = omega arith in
          ap (λ t. t && (nat_le 1 (k - (63 - by)) && bit high (k - (63 - by) - 1))) (le-leb (63 - by) k (omega arith))
          ∙ ap (λ t. t && bit high (k - (63 - by) - 1)) (le-leb 1 (k - (63 - by)) (omega arith)) ∙ ap (bit high) e
          ∙ sym (ap (λ t. t && bit high (by + k - 64)) (le-leb 64 (by + k) l))

-- two words in a row have the 64 places from `from` on
pub joined-places : (words : List ℕ) (from w by k v : ℕ) → from ≡ 64 * w + by → by < 64 → k < 64 → get_or words w 0 < 2 ^ 64
    → bit v k ≡ (bit (get_or words w 0) (by + k) || (nat_le 64 (by + k) && bit (get_or words (w + 1) 0) (by + k - 64)))
    → bit v k ≡ bit_in words (from + k)
joined-places words from w by k v start small h fits e = e ∙ go (cases_lt (by + k) 64) where
  go : (by + k < 64) ⊎ (64 ≤ by + k)
      → (bit (get_or words w 0) (by + k) || (nat_le 64 (by + k) && bit (get_or words (w + 1) 0) (by + k - 64))) ≡ bit_in words (from + k)
  go (inl l) =
      let at : from + k ≡ 64 * w + (by + k) = omega arith in
      or-false _ _ (ap (λ t. t && bit (get_or words (w + 1) 0) (by + k - 64)) (lt-leb 64 (by + k) l))
      ∙ sym (ap (bit_in words) at ∙ place-at words w (by + k) l)
  go (inr l) =
      let at : from + k ≡ 64 * (w + 1) + (by + k - 64) = omega arith in
      ap (λ t. t || (nat_le 64 (by + k) && bit (get_or words (w + 1) 0) (by + k - 64))) (bit-above (get_or words w 0) (by + k) fits l)
      ∙ ap (λ t. t && bit (get_or words (w + 1) 0) (by + k - 64)) (le-leb 64 (by + k) l)
      ∙ sym (ap (bit_in words) at ∙ place-at words (w + 1) (by + k - 64) (omega arith))

pub merged-bits : (a b low k : ℕ) → low < 64 → k < 64
    → bit (bit_or (bit_and a (1 * 2 ^ low % 2 ^ 64 - 1)) (bit_and b ((2 ^ 64 - 1) * 2 ^ low % 2 ^ 64))) k ≡ cond (nat_lt k low) (bit a k) (bit b k)
merged-bits a b low k h small =
    bit-or _ _ k ∙ either-same (bit-and a _ k ∙ ap (λ t. bit a k && t) (bit-low_ones low k h)) (bit-and b _ k ∙ ap (λ t. bit b k && t) (bit-shifted_ones low k h small)) ∙ go (cases_lt k low) where
      choose_first : (p q : Bool) → ((p && true) || (q && false)) ≡ p
      choose_first true q = refl
      choose_first false true = refl
      choose_first false false = refl

      choose_second : (p q : Bool) → ((p && false) || (q && true)) ≡ q
      choose_second true true = refl
      choose_second true false = refl
      choose_second false true = refl
      choose_second false false = refl

      go : (k < low) ⊎ (low ≤ k) → ((bit a k && nat_lt k low) || (bit b k && nat_le low k)) ≡ cond (nat_lt k low) (bit a k) (bit b k)
      go (inl l) = rw (lt-ltb k low l, lt-leb low k l) (choose_first (bit a k) (bit b k))
      go (inr l) = rw (le-ltb k low l, le-leb low k l) (choose_second (bit a k) (bit b k))

-- ---- closing up

-- from `from` up to word w each place is what was n further on
pub record IsClosed (old : List ℕ) (from n w : ℕ) (words : List ℕ) : Type 0 where
  pub at : (i : ℕ) → bit_in words i ≡ cond (lies from (64 * w) i) (bit_in old (i + n)) (bit_in old i)

closed-by : (old : List ℕ) (from n w : ℕ) (words : List ℕ) → ((i : ℕ) → from ≤ i → i < 64 * w → bit_in words i ≡ bit_in old (i + n))
    → ((i : ℕ) → i < from → bit_in words i ≡ bit_in old i) → ((i : ℕ) → 64 * w ≤ i → bit_in words i ≡ bit_in old i) → IsClosed old from n w words
closed-by old from n w words inside below above = record {
  at = λ i. by-run from (64 * w) i (λ t. bit_in words i ≡ cond t (bit_in old (i + n)) (bit_in old i)) (inside i) (below i) (above i);
}

closed-in : (old : List ℕ) (from n w i : ℕ) (words : List ℕ) → IsClosed old from n w words → from ≤ i → i < 64 * w → bit_in words i ≡ bit_in old (i + n)
closed-in old from n w i words closed h l = closed.at i ∙ cond-true _ (bit_in old (i + n)) (bit_in old i) (lies-in from (64 * w) i h l)

closed-below : (old : List ℕ) (from n w i : ℕ) (words : List ℕ) → IsClosed old from n w words → i < from → bit_in words i ≡ bit_in old i
closed-below old from n w i words closed h = closed.at i ∙ cond-false _ (bit_in old (i + n)) (bit_in old i) (lies-below from (64 * w) i h)

closed-above : (old : List ℕ) (from n w i : ℕ) (words : List ℕ) → IsClosed old from n w words → 64 * w ≤ i → bit_in words i ≡ bit_in old i
closed-above old from n w i words closed h = closed.at i ∙ cond-false _ (bit_in old (i + n)) (bit_in old i) (lies-above from (64 * w) i h)

-- the first word keeps the places below `from`
pub closed-start : (old : List ℕ) (from n v : ℕ) → from / 64 < length old
    → ((k : ℕ) → k < 64 → bit v k ≡ cond (nat_lt k (from % 64)) (bit (get_or old (from / 64) 0) k) (bit_in old (from / 64 * 64 + n + k)))
    → IsClosed old from n (from / 64 + 1) (set old (from / 64) v)
closed-start old from n v within made = closed-by old from n (from / 64 + 1) (set old (from / 64) v) inside (λ i h. below i h (cases_eq (i / 64) (from / 64))) above where
  inside : (i : ℕ) → from ≤ i → i < 64 * (from / 64 + 1) → bit_in (set old (from / 64) v) i ≡ bit_in old (i + n)
  inside i h l =
      let far : from / 64 * 64 + n + i % 64 ≡ i + n = omega arith in
      place-set-same old (from / 64) v i within (omega arith) ∙ made (i % 64) (omega arith)
      ∙ cond-false _ _ (bit_in old (from / 64 * 64 + n + i % 64)) (le-ltb (i % 64) (from % 64) (omega arith)) ∙ ap (bit_in old) far

  below : (i : ℕ) → i < from → (i / 64 ≡ from / 64) ⊎ (i / 64 ≢ from / 64) → bit_in (set old (from / 64) v) i ≡ bit_in old i
  below i h (inl e) =
      place-set-same old (from / 64) v i within e ∙ made (i % 64) (omega arith)
      ∙ cond-true _ (bit (get_or old (from / 64) 0) (i % 64)) _ (lt-ltb (i % 64) (from % 64) (omega arith))
      ∙ ap (λ w. bit (get_or old w 0) (i % 64)) (sym e) ∙ sym (place-is old i)
  below i h (inr e) = place-set-other old (from / 64) v i e

  above : (i : ℕ) → 64 * (from / 64 + 1) ≤ i → bit_in (set old (from / 64) v) i ≡ bit_in old i
  above i h = place-set-other old (from / 64) v i (omega arith)

-- one more word
pub closed-more : (old : List ℕ) (from n w v : ℕ) (words : List ℕ) → from ≤ 64 * w → w < length words → IsClosed old from n w words
    → ((k : ℕ) → k < 64 → bit v k ≡ bit_in words (w * 64 + n + k)) → IsClosed old from n (w + 1) (set words w v)
closed-more old from n w v words low within so_far made = closed-by old from n (w + 1) (set words w v) (λ i h l. inside i h l (cases_lt i (64 * w))) below above where
  inside : (i : ℕ) → from ≤ i → i < 64 * (w + 1) → (i < 64 * w) ⊎ (64 * w ≤ i) → bit_in (set words w v) i ≡ bit_in old (i + n)
  inside i h l (inl before) = place-set-other words w v i (omega arith) ∙ closed-in old from n w i words so_far h before
  inside i h l (inr now) =
      let far : w * 64 + n + i % 64 ≡ i + n = omega arith in
      place-set-same words w v i within (omega arith) ∙ made (i % 64) (omega arith) ∙ ap (bit_in words) far ∙ closed-above old from n w (i + n) words so_far (omega arith)

  below : (i : ℕ) → i < from → bit_in (set words w v) i ≡ bit_in old i
  below i h = place-set-other words w v i (omega arith) ∙ closed-below old from n w i words so_far h

  above : (i : ℕ) → 64 * (w + 1) ≤ i → bit_in (set words w v) i ≡ bit_in old i
  above i h = place-set-other words w v i (omega arith) ∙ closed-above old from n w i words so_far (omega arith)

-- ---- the next set place

-- no place is set from `from` up to word w
pub record IsNoneUpTo (words : List ℕ) (from w : ℕ) : Type 0 where
  pub none : (i : ℕ) → from ≤ i → i < 64 * w → bit_in words i ≡ false

pub next-found : (words : List ℕ) (from end w t : ℕ) → IsNoneUpTo words from w → t < 64 → from ≤ 64 * w + t → 64 * w + t < end
    → bit (get_or words w 0) t ≡ true → ((k : ℕ) → k < t → from ≤ 64 * w + k → bit (get_or words w 0) k ≡ false)
    → IsNextPlace words from end (64 * w + t)
next-found words from end w t before small low within here least = record {
  from_on = low;
  within = within;
  set = place-at words w t small ∙ here;
  least = λ i a b. go i a b (cases_lt i (64 * w));
} where
  go : (i : ℕ) → from ≤ i → i < 64 * w + t → (i < 64 * w) ⊎ (64 * w ≤ i) → bit_in words i ≡ false
  go i a b (inl h) = before.none i a h
  go i a b (inr h) =
      let e : i ≡ 64 * w + (i - 64 * w) = omega arith in
      ap (bit_in words) e ∙ place-at words w (i - 64 * w) (omega arith) ∙ least (i - 64 * w) (omega arith) (omega arith)

-- no place is set in a word whose bits are clear
pub none-more : (words : List ℕ) (from w : ℕ) → IsNoneUpTo words from w
    → ((k : ℕ) → k < 64 → from ≤ 64 * w + k → bit (get_or words w 0) k ≡ false) → IsNoneUpTo words from (w + 1)
none-more words from w before clear = record { none = λ i a b. go i a b (cases_lt i (64 * w)) } where
  go : (i : ℕ) → from ≤ i → i < 64 * (w + 1) → (i < 64 * w) ⊎ (64 * w ≤ i) → bit_in words i ≡ false
  go i a b (inl h) = before.none i a h
  go i a b (inr h) =
      let e : i ≡ 64 * w + (i - 64 * w) = omega arith in
      ap (bit_in words) e ∙ place-at words w (i - 64 * w) (omega arith) ∙ clear (i - 64 * w) (omega arith) (omega arith)

-- nor in words that are 0
pub none-further : (words : List ℕ) (from w to : ℕ) → IsNoneUpTo words from w → ((k : ℕ) → w ≤ k → k < to → get_or words k 0 ≡ 0) → IsNoneUpTo words from to
none-further words from w to before zeros = record { none = λ i a b. go i a b (cases_lt i (64 * w)) } where
  go : (i : ℕ) → from ≤ i → i < 64 * to → (i < 64 * w) ⊎ (64 * w ≤ i) → bit_in words i ≡ false
  go i a b (inl h) = before.none i a h
  go i a b (inr h) = place-is words i ∙ ap (λ x. bit x (i % 64)) (zeros (i / 64) (omega arith) (omega arith)) ∙ bit-zero (i % 64)

pub none-join : (words : List ℕ) (from mid to : ℕ) → IsNoneUpTo words from mid → IsNoneUpTo words (64 * mid) to → IsNoneUpTo words from to
none-join words from mid to one two = record { none = λ i a b. go i a b (cases_lt i (64 * mid)) } where
  go : (i : ℕ) → from ≤ i → i < 64 * to → (i < 64 * mid) ⊎ (64 * mid ≤ i) → bit_in words i ≡ false
  go i a b (inl h) = one.none i a h
  go i a b (inr h) = two.none i h b

-- the bits of the first word from `from` on
pub head-bits : (word m from head : ℕ) → head ≡ bit_and word m → ((k : ℕ) → k < 64 → bit m k ≡ lies (from % 64) 64 k) → (k : ℕ) → k < 64
    → bit head k ≡ (bit word k && nat_le (from % 64) k)
head-bits word m from head e mask k h =
    ap (λ x. bit x k) e ∙ bit-and word m k ∙ ap (λ t. bit word k && t) (mask k h ∙ and-true (nat_le (from % 64) k) (nat_lt k 64) (lt-ltb k 64 h))

and-parts : (p q : Bool) → (p && q) ≡ true → (p ≡ true) × (q ≡ true)
and-parts true q e = (refl, e)
and-parts false q e = absurd (cc e)

and-known : (p q : Bool) → q ≡ true → (p && q) ≡ false → p ≡ false
and-known true q e f = sym e ∙ f
and-known false q e f = refl

pub head-set : (word from t head : ℕ) → t < 64 → bit head t ≡ (bit word t && nat_le (from % 64) t) → bit head t ≡ true
    → (bit word t ≡ true) × (from ≤ 64 * (from / 64) + t)
head-set word from t head h made set =
    let both = and-parts (bit word t) (nat_le (from % 64) t) (sym made ∙ set) in
    let low : from % 64 ≤ t = leb-true (from % 64) t both.1 in
    (both.0, omega arith)

pub head-clear : (word from k head : ℕ) → k < 64 → bit head k ≡ (bit word k && nat_le (from % 64) k) → bit head k ≡ false → from ≤ 64 * (from / 64) + k
    → bit word k ≡ false
head-clear word from k head h made clear low =
    and-known (bit word k) (nat_le (from % 64) k) (le-leb (from % 64) k (omega arith)) (sym made ∙ clear)

pub ruleset joins = (lies-join, joined-bits, merged-bits, cond-or)
