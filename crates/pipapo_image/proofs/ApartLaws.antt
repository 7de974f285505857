-- How changes keep the live elements of a disjoint set apart.
use Rattle.std.proofs.Common.{◌≡◌, refl, sym, ◌∙◌, ap, subst, ℕ, zero, suc, ◌≤◌, Bool, true, false, ◌&&◌, nat_lt, List, [], ◌∷◌, ◌++◌, cond, Option, Some, None, arith, inl, inr}
use Rattle.std.specs.Prelude.{◌⊎◌, not, filter, find, remove, slice_get, option_map, if◌then◌else◌}
use Rattle.std.specs.List.{list_all}
use Rattle.std.proofs.lemmas.Bool.{and_parts, and_from}
use Rattle.std.proofs.lemmas.Bool.Decides.{nat_tests}
use Rattle.std.proofs.lemmas.List.Elements.{filter-append}
use Rattle.std.proofs.lemmas.List.Quantifiers.{position-Some}
use Rattle.std.proofs.lemmas.Option.{get_or_from_slice_get}
use Rattle.set_model.specs.declared.kind.Interval.{Interval}
use Rattle.set_model.specs.declared.element.Element.{Element}
use Rattle.set_model.specs.declared.element.NewElement.{NewElement}
use Rattle.set_model.specs.Key.{start_key, same_parts, parts_share}
use Rattle.set_model.specs.Expiry.{lives, live, renewed_element, renewed_at}
use Rattle.set_model.specs.SetState.{State, shares, is_sharing, answers, holds, element_at, place, same_at, twin_place, start_in_the_way, end_in_the_way, sharing_in_the_way, sharing_place, is_full, crowded_field, with_element, renewed, add, add_by, removed, exact_place, without_at, purged}
use Rattle.set_model.specs.Apart.{none_share, IsApart}
use Rattle.set_tables.proofs.RowLaws.{find-none}
use Rattle.pipapo_image.specs.Image.Apart.{KeepsApart}

-- ---- fewer elements

-- A list is another list without some of its elements, and some elements may have other expiries.
abbrev Thins : List Element → List Element → Type 0
Thins [] [] = Unit {0}
Thins [] (y ∷ ys) = ⊥
Thins (x ∷ xs) ys = Thins xs ys ⊎ ((y : Element) × (rest : List Element) × (ys ≡ y ∷ rest) × (y.parts ≡ x.parts) × Thins xs rest)

thin-all : (t : List Interval → Bool) (xs ys : List Element) → Thins xs ys → list_all (λ e. t e.parts) xs ≡ true → list_all (λ e. t e.parts) ys ≡ true
thin-all t [] [] h a = refl
thin-all t [] (y ∷ ys) h a = absurd h
thin-all t (x ∷ xs) ys (inl h) a = thin-all t xs ys h (and_parts (t x.parts) (list_all (λ e. t e.parts) xs) a).1
thin-all t (x ∷ xs) ys (inr h) a =
    let b = and_parts (t x.parts) (list_all (λ e. t e.parts) xs) a in
    subst (λ z. list_all (λ e. t e.parts) z ≡ true) (sym h.2) (and_from (t h.0.parts) (list_all (λ e. t e.parts) h.1) (ap t h.3 ∙ b.0) (thin-all t xs h.1 h.4 b.1))

thin-apart : (xs ys : List Element) → Thins xs ys → none_share xs ≡ true → none_share ys ≡ true
thin-apart [] [] h a = refl
thin-apart [] (y ∷ ys) h a = absurd h
thin-apart (x ∷ xs) ys (inl h) a = thin-apart xs ys h (and_parts (list_all (λ d. not (shares x d.parts)) xs) (none_share xs) a).1
thin-apart (x ∷ xs) ys (inr h) a =
    let b = and_parts (list_all (λ d. not (shares x d.parts)) xs) (none_share xs) a in
    let first = thin-all (λ q. not (parts_share x.parts q)) xs h.1 h.4 b.0 in
    let mine = subst (λ q. list_all (λ d. not (parts_share q d.parts)) h.1 ≡ true) (sym h.3) first in
    subst (λ z. none_share z ≡ true) (sym h.2) (and_from (list_all (λ d. not (shares h.0 d.parts)) h.1) (none_share h.1) mine (thin-apart xs h.1 h.4 b.1))

thin-same : (xs : List Element) → Thins xs xs
thin-same [] = tt
thin-same (x ∷ xs) = inr (x, xs, refl, refl, thin-same xs)

-- one more element that passes a test, before and after
thin-step : (p q : Bool) (e f : Element) (xs ys : List Element) → f.parts ≡ e.parts → (q ≡ true → p ≡ true) → Thins xs ys → Thins (cond p (e ∷ xs) xs) (cond q (f ∷ ys) ys)
thin-step true true e f xs ys same less h = inr (f, ys, refl, same, h)
thin-step true false e f xs ys same less h = inl h
thin-step false true e f xs ys same less h = absurd (cc (less refl))
thin-step false false e f xs ys same less h = h

thin-drop : (p : Bool) (e : Element) (xs ys : List Element) → Thins xs ys → Thins (cond p (e ∷ xs) xs) ys
thin-drop true e xs ys h = inl h
thin-drop false e xs ys h = h

abbrev living : ℕ → List Element → List Element
living now es = filter (λ e. live e now) es

-- ---- a later moment
lived : (x : Option ℕ) (m now : ℕ) → m ≤ now → lives x now ≡ true → lives x m ≡ true
lived None m now h a = refl
lived (Some t) m now h a = from-less t m now h a where
  from-less : (t m now : ℕ) → m ≤ now → nat_lt now t ≡ true → nat_lt m t ≡ true
  from-less t m now h a = grind (arith, nat_tests)

thin-later : (m now : ℕ) (es : List Element) → m ≤ now → Thins (living m es) (living now es)
thin-later m now [] h = tt
thin-later m now (e ∷ es) h = thin-step (live e m) (live e now) e e (living m es) (living now es) refl (lived e.expiry m now h) (thin-later m now es h)

later : (s : State) (m now : ℕ) → m ≤ now → IsApart s m → IsApart s now
later s m now h a = λ d. thin-apart (living m s.elements) (living now s.elements) (thin-later m now s.elements h) (a d)

-- ---- what takes elements out
thin-removed : (m i : ℕ) (es : List Element) → Thins (living m es) (living m (remove es i))
thin-removed m zero [] = tt
thin-removed m (suc i) [] = tt
thin-removed m zero (e ∷ es) = thin-drop (live e m) e (living m es) (living m es) (thin-same (living m es))
thin-removed m (suc i) (e ∷ es) = thin-step (live e m) (live e m) e e (living m es) (living m (remove es i)) refl (λ h. h) (thin-removed m i es)

-- the set of an answer, or this set if the answer has none
abbrev set_of : State → Option (ℕ × State) → State
set_of s None = s
set_of s (Some found) = found.1

removed-apart : (s left : State) (parts : List Interval) (now id m : ℕ) → removed s parts now ≡ Some (id, left) → IsApart s m → IsApart left m
removed-apart s left parts now id m h a = go (exact_place s parts now) h where
  go : (p : Option ℕ) → option_map {U = ℕ × State} (λ i. ((element_at s i).id, without_at s i)) p ≡ Some (id, left) → IsApart left m
  go None h = absurd (cc h)
  go (Some i) h = subst (λ z. IsApart z m) (ap (set_of s) h) (λ d. thin-apart (living m s.elements) (living m (remove s.elements i)) (thin-removed m i s.elements) (a d))

thin-purged : (m now : ℕ) (es : List Element) → Thins (living m es) (living m (living now es))
thin-purged m now [] = tt
thin-purged m now (e ∷ es) = go (live e now) (thin-purged m now es) where
  go : (t : Bool) → Thins (living m es) (living m (living now es)) → Thins (living m (e ∷ es)) (living m (cond t (e ∷ living now es) (living now es)))
  go true h = thin-step (live e m) (live e m) e e (living m es) (living m (living now es)) refl (λ g. g) h
  go false h = thin-drop (live e m) e (living m es) (living m (living now es)) h

purged-apart : (s : State) (now m : ℕ) → IsApart s m → IsApart (purged s now) m
purged-apart s now m a = λ d. thin-apart (living m s.elements) (living m (living now s.elements)) (thin-purged m now s.elements) (a d)

-- ---- a renewal
renewed-next : (e : Element) (es : List Element) (i : ℕ) (x : Option ℕ) (o : Option Element) → renewed_element (e ∷ es) (suc i) x o ≡ e ∷ renewed_element es i x o
renewed-next e es i x None = refl
renewed-next e es i x (Some f) = refl

thin-renewed : (now i : ℕ) (x : Option ℕ) (es : List Element) → ((e : Element) → slice_get es i ≡ Some e → live e now ≡ true) → Thins (living now es) (living now (renewed_at es i x))
thin-renewed now i x [] h = tt
thin-renewed now zero x (e ∷ es) h = thin-step (live e now) (lives x now) e (record e { expiry = x }) (living now es) (living now es) refl (λ _. h e refl) (thin-same (living now es))
thin-renewed now (suc i) x (e ∷ es) h =
    subst (λ z. Thins (living now (e ∷ es)) (living now z)) (sym (renewed-next e es i x (slice_get es i)))
    (thin-step (live e now) (live e now) e e (living now es) (living now (renewed_at es i x)) refl (λ g. g) (thin-renewed now i x es h))

renewed-apart : (s : State) (key : List ℕ) (now i : ℕ) (x : Option ℕ) → place s key now ≡ Some i → IsApart s now → IsApart (renewed s i x) now
renewed-apart s key now i x h a = λ d.
    thin-apart (living now s.elements) (living now (renewed_at s.elements i x))
    (thin-renewed now i x s.elements (λ e at.
    let found = (position-Some (answers key now) s.elements i e h).1 in
    let here = subst (λ z. answers key now z ≡ true) (get_or_from_slice_get s.elements i e e at) found in
    (and_parts (live e now) (holds e key) here).0))
    (a d)

-- the element that is there already holds the start key
twin-at : (s : State) (parts : List Interval) (o : Option ℕ) (i : ℕ) → same_at s parts o ≡ Some i → o ≡ Some i
twin-at s parts None i h = absurd (cc h)
twin-at s parts (Some j) i h = go (same_parts (element_at s j).parts parts) h where
  go : (t : Bool) → (if t then Some j else None) ≡ Some i → Some j ≡ Some i
  go true h = h
  go false h = absurd (cc h)

-- ---- a new element
none-found : (parts : List Interval) (now : ℕ) (es : List Element) → find (λ e. live e now && shares e parts) es ≡ None → list_all (λ e. not (shares e parts)) (living now es) ≡ true
none-found parts now [] h = refl
none-found parts now (e ∷ es) h = one (live e now) h (none-found parts now es) where
  two : (t : Bool) → cond t (Some e) (find (λ e. live e now && shares e parts) es) ≡ None
      → (find (λ e. live e now && shares e parts) es ≡ None → list_all (λ e. not (shares e parts)) (living now es) ≡ true) → (not t && list_all (λ e. not (shares e parts)) (living now es)) ≡ true
  two true h ih = absurd (cc h)
  two false h ih = ih h

  one : (l : Bool) → cond (l && shares e parts) (Some e) (find (λ e. live e now && shares e parts) es) ≡ None
      → (find (λ e. live e now && shares e parts) es ≡ None → list_all (λ e. not (shares e parts)) (living now es) ≡ true) → list_all (λ e. not (shares e parts)) (cond l (e ∷ living now es) (living now es)) ≡ true
  one true h ih = two (shares e parts) h ih
  one false h ih = ih h

all-pushed : (t : Element → Bool) (b : Bool) (n : Element) (xs : List Element) → list_all t xs ≡ true → t n ≡ true → list_all t (xs ++ cond b (n ∷ []) []) ≡ true
all-pushed t true n [] a h = and_from (t n) true h refl
all-pushed t false n [] a h = refl
all-pushed t b n (x ∷ xs) a h =
    let p = and_parts (t x) (list_all t xs) a in
    and_from (t x) (list_all t (xs ++ cond b (n ∷ []) [])) p.0 (all-pushed t b n xs p.1 h)

apart-pushed : (b : Bool) (n : Element) (xs : List Element) → none_share xs ≡ true → list_all (λ x. not (shares x n.parts)) xs ≡ true → none_share (xs ++ cond b (n ∷ []) []) ≡ true
apart-pushed true n [] a h = refl
apart-pushed false n [] a h = refl
apart-pushed b n (x ∷ xs) a h =
    let p = and_parts (list_all (λ d. not (shares x d.parts)) xs) (none_share xs) a in
    let q = and_parts (not (shares x n.parts)) (list_all (λ x. not (shares x n.parts)) xs) h in
    and_from (list_all (λ d. not (shares x d.parts)) (xs ++ cond b (n ∷ []) [])) (none_share (xs ++ cond b (n ∷ []) [])) (all-pushed (λ d. not (shares x d.parts)) b n xs p.0 q.0) (apart-pushed b n xs p.1 q.1)

new-apart : (s : State) (e : NewElement) (now : ℕ) → (s.disjoint ≡ true → sharing_place s e.parts now ≡ None) → IsApart s now → IsApart (with_element s e) now
new-apart s e now h a = λ d.
    let n : Element = record { id = s.next; parts = e.parts; expiry = e.expiry; comment = e.comment } in
    ap none_share (filter-append (λ x. live x now) s.elements (n ∷ []))
    ∙ apart-pushed (lives e.expiry now) n (living now s.elements) (a d) (none-found e.parts now s.elements (find-none (is_sharing e.parts now) s.elements (h d)))

-- case by case
added-now : (s : State) (e : NewElement) (now : ℕ) → IsApart s now → IsApart (add s e now).1 now
added-now s e now a = go (twin_place s e.parts now) e.expiry (start_in_the_way s e.parts now) (end_in_the_way s e.parts now) (sharing_in_the_way s e.parts now) (is_full s) (crowded_field s e.parts) refl who where
  who : s.disjoint ≡ true → sharing_place s e.parts now ≡ sharing_in_the_way s e.parts now
  who d = sym (ap (λ t. if t then sharing_place s e.parts now else None) d)

  go : (twin x at_start at_end sharing : Option ℕ) (full : Bool) (crowded : Option ℕ) → twin_place s e.parts now ≡ twin → (s.disjoint ≡ true → sharing_place s e.parts now ≡ sharing)
      → IsApart (add_by s e twin x at_start at_end sharing full crowded).1 now
  go (Some i) None at_start at_end sharing full crowded t h = a
  go (Some i) (Some m) at_start at_end sharing full crowded t h = renewed-apart s (start_key e.parts) now i (Some m) (twin-at s e.parts (place s (start_key e.parts) now) i t) a
  go None x (Some i) at_end sharing full crowded t h = a
  go None x None (Some i) sharing full crowded t h = a
  go None x None None (Some i) full crowded t h = a
  go None x None None None true crowded t h = a
  go None x None None None false (Some f) t h = a
  go None x None None None false None t h = new-apart s e now h a

pub keeps-apart : KeepsApart
keeps-apart = record {
  empty = λ kinds size disjoint now d. refl;
  later = later;
  added = λ s e m now h a. added-now s e now (later s m now h a);
  removed = removed-apart;
  purged = purged-apart;
  cleared = λ s now d. refl;
}
