-- The first live end, rule by rule and word by word.
use Rattle.std.proofs.Common.{◌≡◌, refl, sym, ◌∙◌, ap, ℕ, ◌+◌, ◌-◌, ◌*◌, ◌<◌, ◌≤◌, ◌⊎◌, inl, inr, Bool, true, false, ◌&&◌, List, length, get_or, Option, Some, None, All, arith, add-zero}
use Rattle.std.specs.List.{zip}
use Rattle.std.proofs.lemmas.Bool.{cases_lt}
use Rattle.std.proofs.lemmas.List.{get_or_past, get_or_default}
use Rattle.std.proofs.lemmas.Slice.Zip.{length-zip, get_or-zip}
use Rattle.bit_rows.specs.Row.{at, bit}
use Rattle.bit_rows.proofs.Bits.{bit-zero}
use Rattle.set_model.specs.Expiry.{lives}
use Rattle.set_tables.specs.declared.End.{End}
use Rattle.set_tables.specs.Rows.{is_led, led_to}
use Rattle.set_tables.proofs.RowLaws.{led-some, led-none}
use Rattle.mapping_table.specs.Spared.{word_of}
use Rattle.mapping_table.proofs.LedLaws.{no_end, position-first, position-nowhere, led-there, skipped}
use Rattle.mapping_table.proofs.LatestLaws.{word-each}
use Rattle.fused_lookup.specs.Words.{IsWordOf, IsNextBit}
use Rattle.fused_lookup.specs.Led.{LeadsNowhere, IsLed}

-- an end, as a default
abbrev pub some_end : End
some_end = record { place = 0; expiry = None }

pub nowhere-none : (ends : List End) (row : List Bool) (now : ℕ) → LeadsNowhere ends row now 0
nowhere-none ends row now = record { none = λ k h. absurd (omega arith) }

-- rules that aren't matched can be skipped
pub nowhere-skip : (ends : List End) (row : List Bool) (now a b : ℕ) → length row ≡ length ends → ((k : ℕ) → a ≤ k → k < b → at row k ≡ false) → LeadsNowhere ends row now a → LeadsNowhere ends row now b
nowhere-skip ends row now a b long unset so_far = record { none = λ k h. go k h (cases_lt k (length ends)) } where
  go : (k : ℕ) → k < b → (k < length ends) ⊎ (length ends ≤ k) → is_led now (get_or (zip ends row) k no_end) ≡ false
  go k h (inl l) = skipped ends row now a (k + 1) long (omega arith) so_far.none (λ j p q. unset j p (omega arith)) k (omega arith)
  go k h (inr l) =
      let m = length-zip ends row in
      ap (is_led now) (get_or_past (zip ends row) k no_end (omega arith))

-- a matched rule whose end isn't live
pub nowhere-more : (ends : List End) (row : List Bool) (now n : ℕ) → length row ≡ length ends → n < length ends → at row n ≡ true → lives (get_or ends n some_end).expiry now ≡ false
    → LeadsNowhere ends row now n → LeadsNowhere ends row now (n + 1)
nowhere-more ends row now n long within set dead so_far = record { none = λ k h. go k (cases_lt k n) h } where
  go : (k : ℕ) → (k < n) ⊎ (n ≤ k) → k < n + 1 → is_led now (get_or (zip ends row) k no_end) ≡ false
  go k (inl l) h = so_far.none k l
  go k (inr l) h = let e : k ≡ n = omega arith in ap (λ j. is_led now (get_or (zip ends row) j no_end)) e ∙ led-there ends row now n false long within set dead

between : (row : List Bool) (i word from k : ℕ) → IsWordOf row i word → IsNextBit word from k → (p : ℕ) → 64 * i + from ≤ p → p < 64 * i + k → at row p ≡ false
between row i word from k is next p a b =
    let h = next.within in
    let e : 64 * i + (p - 64 * i) ≡ p = omega arith in
    ap (at row) (sym e) ∙ sym (is.bits (p - 64 * i) (omega arith)) ∙ next.least (p - 64 * i) (omega arith) (omega arith)

-- one more bit of a word, if the end of its rule isn't live
pub nowhere-bit : (ends : List End) (row : List Bool) (now i word from k : ℕ) → length row ≡ length ends → IsWordOf row i word → IsNextBit word from k → 64 * i + k < length ends
    → lives (get_or ends (64 * i + k) some_end).expiry now ≡ false → LeadsNowhere ends row now (64 * i + from) → LeadsNowhere ends row now (64 * i + (k + 1))
nowhere-bit ends row now i word from k long is next within dead so_far =
    let e : (64 * i + k) + 1 ≡ 64 * i + (k + 1) = omega arith in
    let gap = nowhere-skip ends row now (64 * i + from) (64 * i + k) long (between row i word from k is next) so_far in
    rw e at (nowhere-more ends row now (64 * i + k) long within (sym (is.bits k next.within) ∙ next.set) dead gap)

-- the rest of a word
pub nowhere-rest : (ends : List End) (row : List Bool) (now i word from : ℕ) → length row ≡ length ends → IsWordOf row i word → ((k : ℕ) → from ≤ k → k < 64 → bit word k ≡ false)
    → LeadsNowhere ends row now (64 * i + from) → LeadsNowhere ends row now (64 * (i + 1))
nowhere-rest ends row now i word from long is none so_far = nowhere-skip ends row now (64 * i + from) (64 * (i + 1)) long unset so_far where
  unset : (p : ℕ) → 64 * i + from ≤ p → p < 64 * (i + 1) → at row p ≡ false
  unset p a b =
      let e : 64 * i + (p - 64 * i) ≡ p = omega arith in
      ap (at row) (sym e) ∙ sym (is.bits (p - 64 * i) (omega arith)) ∙ none (p - 64 * i) (omega arith) (omega arith)

-- a word without a matched rule
pub nowhere-zero : (ends : List End) (row : List Bool) (now i word : ℕ) → length row ≡ length ends → IsWordOf row i word → word ≡ 0 → LeadsNowhere ends row now (64 * i) → LeadsNowhere ends row now (64 * (i + 1))
nowhere-zero ends row now i word long is zero so_far = nowhere-rest ends row now i word 0 long is (λ k a b. ap (λ x. bit x k) zero ∙ bit-zero k) (rw (add-zero (64 * i)) so_far)

and-false : (b : Bool) → (b && false) ≡ false
and-false true = refl
and-false false = refl

-- a word whose ends are all expired
pub nowhere-expired : (ends : List End) (row : List Bool) (now i : ℕ) → length row ≡ length ends → All (λ e. lives e.expiry now ≡ false) (word_of i ends) → LeadsNowhere ends row now (64 * i)
    → LeadsNowhere ends row now (64 * (i + 1))
nowhere-expired ends row now i long expired so_far = record { none = λ k h. go k h (cases_lt k (64 * i)) (cases_lt k (length ends)) } where
  go : (k : ℕ) → k < 64 * (i + 1) → (k < 64 * i) ⊎ (64 * i ≤ k) → (k < length ends) ⊎ (length ends ≤ k) → is_led now (get_or (zip ends row) k no_end) ≡ false
  go k h (inl l) a = so_far.none k l
  go k h (inr l) (inl a) =
      let short : k < length row = omega arith in
      let dead = word-each (λ e. lives e.expiry now ≡ false) ends i k some_end expired (omega arith) a in
      ap (is_led now) (get_or-zip ends row k no_end a short) ∙ ap (λ t. get_or row k false && t) dead ∙ and-false (get_or row k false)
  go k h (inr l) (inr a) =
      let m = length-zip ends row in
      ap (is_led now) (get_or_past (zip ends row) k no_end (omega arith))

default-same : (ends : List End) (k : ℕ) → k < length ends → get_or ends k (get_or ends k some_end) ≡ get_or ends k some_end
default-same ends k within = get_or_default ends k (get_or ends k some_end) some_end within

-- the next bit of a word, whose rule's end is live
pub led-bit : (ends : List End) (row : List Bool) (now i word from k : ℕ) → length row ≡ length ends → IsWordOf row i word → IsNextBit word from k → 64 * i + k < length ends
    → lives (get_or ends (64 * i + k) some_end).expiry now ≡ true → LeadsNowhere ends row now (64 * i + from) → Some (get_or ends (64 * i + k) some_end).place ≡ led_to ends row now
led-bit ends row now i word from k long is next within live so_far =
    let m = length-zip ends row in
    let inside : 64 * i + k < length (zip ends row) = omega arith in
    let gap = nowhere-skip ends row now (64 * i + from) (64 * i + k) long (between row i word from k is next) so_far in
    let found = position-first (is_led now) (zip ends row) (64 * i + k) no_end inside gap.none (led-there ends row now (64 * i + k) true long within (sym (is.bits k next.within) ∙ next.set) live) in
    sym (led-some ends row now (64 * i + k) (get_or ends (64 * i + k) some_end) long (sym found) (default-same ends (64 * i + k) within))

-- all rules
pub nowhere-all : (ends : List End) (row : List Bool) (now n : ℕ) → length row ≡ length ends → length ends ≤ n → LeadsNowhere ends row now n → None ≡ led_to ends row now
nowhere-all ends row now n long past none =
    let m = length-zip ends row in
    sym (led-none ends row now (sym (position-nowhere (is_led now) (zip ends row) no_end (λ k h. none.none k (omega arith)))))

-- rules that aren't matched lead nowhere new
pub led-skip : (ends : List End) (row : List Bool) (now a b : ℕ) (found : Option ℕ) → length row ≡ length ends → ((k : ℕ) → a ≤ k → k < b → at row k ≡ false) → IsLed ends row now a found
    → IsLed ends row now b found
led-skip ends row now a b (Some place) long unset is = is
led-skip ends row now a b None long unset is = nowhere-skip ends row now a b long unset is

-- after the last word: no rule from n on is matched
pub led-all : (ends : List End) (row : List Bool) (now n : ℕ) (found : Option ℕ) → length row ≡ length ends → ((k : ℕ) → n ≤ k → at row k ≡ false) → IsLed ends row now n found → found ≡ led_to ends row now
led-all ends row now n (Some place) long unset is = is
led-all ends row now n None long unset is =
    nowhere-all ends row now (n + length ends) long (omega arith) (nowhere-skip ends row now n (n + length ends) long (λ k a b. unset k a) is)
