-- The elements before a place, counted step by step.
use Rattle.std.proofs.Common.{◌≡◌, sym, ◌∙◌, ap, ℕ, zero, suc, ◌+◌, ◌<◌, ◌≤◌, Bool, false, not, List, [], length, take, get_or, slice_get, Option, Some, None, ◌⊎◌, inl, inr, arith, take_all}
use Rattle.std.specs.Prelude.{count_by}
use Rattle.std.proofs.lemmas.Bool.{cases_lt}
use Rattle.std.proofs.lemmas.List.Sums.{count_by_more_no}
use Rattle.std.proofs.lemmas.Option.{slice_get-get_or}
use Rattle.set_model.specs.declared.element.Element.{Element}
use Rattle.expiry_scan.specs.Expired.{stays}

-- the default past the end of a list
abbrev pub no_element : Element
no_element = record { id = 0; parts = []; expiry = None; comment = [] }

-- the element at a place counted from another one has left
abbrev pub left_at : Option ℕ → List Element → ℕ → ℕ → Bool
left_at passed elements from k = not (stays passed (get_or elements (from + k) no_element))

-- ---- a stretch without such elements
pub count_quiet : (p : Element → Bool) (elements : List Element) (a n : ℕ) → ((k : ℕ) (e : Element) → k < n → slice_get elements (a + k) ≡ Some e → p e ≡ false)
    → count_by p (take (a + n) elements) ≡ count_by p (take a elements)
count_quiet p elements a zero h = ap (λ z. count_by p (take z elements)) (omega arith)
count_quiet p elements a (suc n) h =
    let on : a + suc n ≡ a + n + 1 = omega arith in
    ap (λ z. count_by p (take z elements)) on ∙ go (cases_lt (a + n) (length elements)) ∙ count_quiet p elements a n (λ k e l. h k e (omega arith)) where
      go : (a + n < length elements) ⊎ (length elements ≤ a + n) → count_by p (take (a + n + 1) elements) ≡ count_by p (take (a + n) elements)
      go (inl within) = count_by_more_no p elements (a + n) no_element within (h n (get_or elements (a + n) no_element) (omega arith) (slice_get-get_or elements (a + n) no_element within))
      go (inr past) = ap (count_by p) (take_all (a + n + 1) elements (omega arith) ∙ sym (take_all (a + n) elements past))
