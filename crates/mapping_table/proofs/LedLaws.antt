-- The first live end of a row, rule by rule.
use Rattle.std.proofs.Common.{◌≡◌, refl, sym, ◌∙◌, ap, ℕ, ◌<◌, ◌≤◌, Bool, true, false, ◌&&◌, List, length, get_or, Some, None, arith, nat_lt, ◌⊎◌, inl, inr}
use Rattle.std.specs.Prelude.{position}
use Rattle.std.specs.List.{zip}
use Rattle.std.proofs.lemmas.Bool.{lt-ltb, cases_lt}
use Rattle.std.proofs.lemmas.Bool.Decides.{nat_tests}
use Rattle.std.proofs.lemmas.List.Sums.{position_or_len_is}
use Rattle.std.proofs.lemmas.Slice.Zip.{get_or-zip}
use Rattle.set_model.specs.Expiry.{lives}
use Rattle.set_tables.specs.declared.End.{End}
use Rattle.set_tables.specs.Rows.{is_led}

-- an end that is not matched, as a default
abbrev pub no_end : End × Bool
no_end = (record { place = 0; expiry = None }, false)

not-lt : (a b : ℕ) → b ≤ a → nat_lt a b ≡ false
not-lt a b h = grind (arith, nat_tests)

-- the first place that passes
pub position-first : {X : Type 0} (p : X → Bool) (xs : List X) (i : ℕ) (d : X) → i < length xs → ((k : ℕ) → k < i → p (get_or xs k d) ≡ false) → p (get_or xs i d) ≡ true → Some i ≡ position p xs
position-first p xs i d h before here =
    let e = position_or_len_is p xs i d (omega arith) before (λ _. here) in
    sym (rw (e, lt-ltb i (length xs) h) refl)

pub position-nowhere : {X : Type 0} (p : X → Bool) (xs : List X) (d : X) → ((k : ℕ) → k < length xs → p (get_or xs k d) ≡ false) → None ≡ position p xs
position-nowhere p xs d before =
    let e = position_or_len_is p xs (length xs) d (omega arith) before (λ l. absurd (omega arith)) in
    sym (rw (e, not-lt (length xs) (length xs) (omega arith)) refl)

-- a matched rule leads to its element if the element is live
pub led-there : (ends : List End) (row : List Bool) (now k : ℕ) (t : Bool) → length row ≡ length ends → k < length ends → get_or row k false ≡ true
    → lives (get_or ends k (record { place = 0; expiry = None })).expiry now ≡ t → is_led now (get_or (zip ends row) k no_end) ≡ t
led-there ends row now k t g h set is =
    let short : k < length row = omega arith in
    ap (is_led now) (get_or-zip ends row k no_end h short) ∙ ap (λ z. z && lives (get_or ends k (record { place = 0; expiry = None })).expiry now) set ∙ is

-- rules that are not matched lead nowhere
pub skipped : (ends : List End) (row : List Bool) (now from r : ℕ) → length row ≡ length ends → r ≤ length ends → ((k : ℕ) → k < from → is_led now (get_or (zip ends row) k no_end) ≡ false)
    → ((k : ℕ) → from ≤ k → k < r → get_or row k false ≡ false) → (k : ℕ) → k < r → is_led now (get_or (zip ends row) k no_end) ≡ false
skipped ends row now from r g within before unset k h = go (cases_lt k from) where
  go : (k < from) ⊎ (from ≤ k) → is_led now (get_or (zip ends row) k no_end) ≡ false
  go (inl l) = before k l
  go (inr l) =
      let inside : k < length ends = omega arith in
      let short : k < length row = omega arith in
      ap (is_led now) (get_or-zip ends row k no_end inside short) ∙ ap (λ z. z && lives (get_or ends k (record { place = 0; expiry = None })).expiry now) (unset k l h)
