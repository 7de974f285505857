-- What the moments of pages of elements mean, and what changes leave of them.
use Rattle.std.proofs.Common.{◌≡◌, refl, sym, subst, ◌∙◌, ap, ℕ, ◌-◌, ◌*◌, ◌+◌, ◌^◌, ◌<◌, ◌≤◌, Bool, true, false, ◌&&◌, not, nat_le, nat_lt, List, [], ◌∷◌, ◌++◌, length, length-append, length-set, length-take, get_or, replicate, ◌%◌, ◌/◌, get_or-take, take, slice_get, slice_set, Option, Some, None, ◌⊎◌, inl, inr, arith}
use Rattle.std.specs.Prelude.{if◌then◌else◌, remove, unwrap_or}
use Rattle.std.proofs.lemmas.Bool.{cases_lt, ltb-true}
use Rattle.std.proofs.lemmas.Bool.Decides.{nat_tests}
use Rattle.std.proofs.lemmas.List.{get_or_append_left, get_or-replicate, get_or_past, get_or-set_same, get_or-set_other}
use Rattle.std.proofs.lemmas.List.Edits.{get_or-remove_below}
use Rattle.std.proofs.lemmas.Option.{slice_get_within, get_or_from_slice_get, slice_get-get_or}
use Rattle.set_model.specs.declared.element.Element.{Element}
use Rattle.set_model.specs.Expiry.{live, lives, renewed_at, renewed_element}
use Rattle.expiry_scan.specs.declared.page_ends.PageEnds.{PageEnds}
use Rattle.bit_rows.specs.Row.{bit}
use Rattle.bit_rows.specs.Words.{bit_in}
use Rattle.bit_rows.proofs.Bits.{place-is, bit-zero}
use Rattle.bit_rows.proofs.Marked.{same_or_not}
use Rattle.expiry_scan.specs.Expired.{is_expired, stays, is_leaving, is_by}
use Rattle.expiry_scan.specs.Soonest.{end_of, AreEndsOf, AreMarks, ArePageEnds, AreEnds, DifferAt}

-- ---- lists
module _ {X : Type 0} (xs : List X) (i : ℕ) (y : X) where
  pub set_elsewhere : (k : ℕ) (x : X) → slice_get (slice_set xs i y) k ≡ Some x → (k ≡ i → ⊥) → slice_get xs k ≡ Some x
  set_elsewhere k x h other =
      let within : k < length xs = omega (arith, length-set xs i y, slice_get_within (slice_set xs i y) k x h) in
      slice_get-get_or xs k x within ∙ ap Some (sym (get_or-set_other xs i k y x other) ∙ get_or_from_slice_get (slice_set xs i y) k x x h)

  pub set_there : (x : X) → slice_get (slice_set xs i y) i ≡ Some x → x ≡ y
  set_there x h =
      let within : i < length xs = omega (arith, length-set xs i y, slice_get_within (slice_set xs i y) i x h) in
      sym (get_or_from_slice_get (slice_set xs i y) i x x h) ∙ get_or-set_same xs i y x within

-- what a look at a place of a list finds is at that place
pub found_there : {X : Type 0} (xs ys : List X) (i : ℕ) (x : X) → xs ≡ ys → true ≡ nat_lt i (length xs) → x ≡ get_or xs i x → slice_get ys i ≡ Some x
found_there xs ys i x same within is = ap (λ z. slice_get z i) (sym same) ∙ slice_get-get_or xs i x (ltb-true i (length xs) (sym within)) ∙ ap Some (sym is)

-- ---- one element
-- No element is expired before its end.
lives-before : (now : ℕ) (expiry : Option ℕ) → now < unwrap_or expiry (2 ^ 64 - 1) → lives expiry now ≡ true
lives-before now None h = refl
lives-before now (Some x) h = grind (arith, nat_tests)

pub not_expired : (now : ℕ) (e : Element) → now < unwrap_or e.expiry (2 ^ 64 - 1) → is_expired now e ≡ false
not_expired now e h = ap not (lives-before now e.expiry h)

pub not_leaving : (p : Option ℕ) (now : ℕ) (e : Element) → now < end_of p e → is_leaving p now e ≡ false
not_leaving p now e h = go (stays p e) h where
  go : (t : Bool) → now < (if t then unwrap_or e.expiry (2 ^ 64 - 1) else 2 ^ 64 - 1) → t && not (live e now) ≡ false
  go true h = not_expired now e h
  go false h = refl

-- An element that isn't expired doesn't leave.
pub none_leaves : (p : Option ℕ) (now : ℕ) (e : Element) → is_expired now e ≡ false → is_leaving p now e ≡ false
none_leaves p now e h = go (stays p e) where
  go : (t : Bool) → t && is_expired now e ≡ false
  go true = h
  go false = refl

live-later : (e : Element) (p q : ℕ) → nat_le p q ≡ true → live e q ≡ true → live e p ≡ true
live-later e p q h l = go e.expiry l where
  go : (expiry : Option ℕ) → lives expiry q ≡ true → lives expiry p ≡ true
  go None l = refl
  go (Some x) l = grind (arith, nat_tests)

-- An element that left by a moment has left by each later one.
stays-by : (p q : Option ℕ) (e : Element) → is_by p q ≡ true → stays q e ≡ true → stays p e ≡ true
stays-by None q e h s = refl
stays-by (Some p) None e h s = absurd (cc h)
stays-by (Some p) (Some q) e h s = live-later e p q h s

pub leaving_by : (p q : Option ℕ) (now : ℕ) (e : Element) → is_by p q ≡ true → is_leaving p now e ≡ false → is_leaving q now e ≡ false
leaving_by p q now e h l = go (stays q e) refl where
  go : (t : Bool) → stays q e ≡ t → t && is_expired now e ≡ false
  go true s = let same : is_leaving p now e ≡ is_expired now e = ap (λ z. z && is_expired now e) (stays-by p q e h s) in sym same ∙ l
  go false s = refl

-- A moment that hasn't come at one moment hasn't come at an earlier one.
no_earlier : (p q : Option ℕ) (end : ℕ) → is_by p q ≡ true → unwrap_or q 0 < end → unwrap_or p 0 < end
no_earlier None q end h l = omega (arith, l)
no_earlier (Some p) None end h l = absurd (cc h)
no_earlier (Some p) (Some q) end h l = grind (arith, nat_tests, h, l)

-- If no staying element leaves by a moment, the same elements stay.
stays-both : (p q : Option ℕ) (e : Element) (end : ℕ) → is_by p q ≡ true → unwrap_or q 0 < end → ((now : ℕ) → now < end → is_leaving p now e ≡ false) → stays p e ≡ stays q e
stays-both None None e end h l none = refl
stays-both (Some p) None e end h l none = absurd (cc h)
stays-both p (Some q) e end h l none = go (stays p e) (live e q) refl refl where
  leaves : is_leaving p q e ≡ false
  leaves = none q l

  go : (t u : Bool) → stays p e ≡ t → live e q ≡ u → stays p e ≡ live e q
  go true true a b = a ∙ sym b
  go true false a b = absurd (cc (sym leaves ∙ ap (λ z. z && not (live e q)) a ∙ ap not b))
  go false false a b = a ∙ sym b
  go false true a b = absurd (cc (sym a ∙ stays-by p (Some q) e h b))

-- If no element has left, no place is marked.
pub none-left : (p : Option ℕ) (e : Element) (k end : ℕ) → unwrap_or p 0 < end → ((now : ℕ) → now < end → is_expired now e ≡ false) → bit_in (replicate 8 0) k ≡ not (stays p e)
none-left p e k end l none = place-is (replicate {A = ℕ} 8 0) k ∙ ap (λ w. bit w (k % 64)) (zero (cases_lt (k / 64) 8)) ∙ bit-zero (k % 64) ∙ go p l none where
  zero : (k / 64 < 8) ⊎ (8 ≤ k / 64) → ◌≡◌ {A = ℕ} (get_or (replicate 8 0) (k / 64) 0) 0
  zero (inl h) = get_or-replicate 8 (k / 64) 0 0 h
  zero (inr h) = get_or_past (replicate 8 0) (k / 64) 0 h

  go : (p : Option ℕ) → unwrap_or p 0 < end → ((now : ℕ) → now < end → is_expired now e ≡ false) → false ≡ not (stays p e)
  go None l none = refl
  go (Some m) l none = sym (none m l)

-- The sooner ends of two pairs are ends of both elements.
pub ends_met : (p : Option ℕ) (e : Element) (a b : ℕ) (old new : PageEnds) → new.all ≤ old.all → new.staying ≤ old.staying → AreEndsOf p e old → AreEndsOf p e new
ends_met p e a b old new la ls h = (λ now l. h.0 now (omega arith), λ now l. h.1 now (omega arith))

pub ends_of : (p : Option ℕ) (e : Element) (ends : PageEnds) → ends.all ≤ unwrap_or e.expiry (2 ^ 64 - 1) → ends.staying ≤ end_of p e → AreEndsOf p e ends
ends_of p e ends la ls = (λ now l. not_expired now e (omega arith), λ now l. not_leaving p now e (omega arith))

-- ---- pages
-- Ends by a moment are ends by each later one. If nobody left between the two moments, the marks
-- stay right, too.
pub ends_by : (p q : Option ℕ) (elements : List Element) (pages : List PageEnds) → is_by p q ≡ true → AreEnds p elements pages → AreEnds q elements pages
ends_by p q elements pages h ends = (ends.0, λ page of at. later page of (ends.1 page of at)) where
  later : (page : ℕ) (of : PageEnds) → ArePageEnds p elements page of → ArePageEnds q elements page of
  later page of old = record {
    moments = λ k e l at. ((old.moments k e l at).0, λ now l2. leaving_by p q now e h ((old.moments k e l at).1 now l2));
    marks = λ none. let marks = old.marks (no_earlier p q of.staying h none) in (marks.0, λ k e l at. marks.1 k e l at ∙ ap not (stays-both p q e of.staying h none (old.moments k e l at).1));
  }

-- The ends of a page are the ends of another list's page with the same elements.
pub ends_there : (p : Option ℕ) (elements others : List Element) (page : ℕ) (ends : PageEnds) → ((k : ℕ) (e : Element) → k < 512 → slice_get others (512 * page + k) ≡ Some e → slice_get elements (512 * page + k) ≡ Some e)
    → ArePageEnds p elements page ends → ArePageEnds p others page ends
ends_there p elements others page ends stand is = record {
  moments = λ k e l at. is.moments k e l (stand k e l at);
  marks = λ some. let marks = is.marks some in (marks.0, λ k e l at. marks.1 k e l (stand k e l at));
}

pub ends_set : (p : Option ℕ) (elements : List Element) (pages : List PageEnds) (page : ℕ) (ends : PageEnds) → AreEnds p elements pages → ArePageEnds p elements page ends → AreEnds p elements (slice_set pages page ends)
ends_set p elements pages page ends are is = (omega (arith, are.0, length-set pages page ends), λ q of at. go q of at (same_or_not q page)) where
  go : (q : ℕ) (of : PageEnds) → slice_get (slice_set pages page ends) q ≡ Some of → (q ≡ page) ⊎ ((q < page) ⊎ (page < q)) → ArePageEnds p elements q of
  go q of at (inl same) =
      let there = set_there pages page ends of (subst (λ n. slice_get (slice_set pages page ends) n ≡ Some of) same at) in
      subst (λ n. ArePageEnds p elements n of) (sym same) (subst (ArePageEnds p elements page) (sym there) is)
  go q of at (inr (inl l)) = are.1 q of (set_elsewhere pages page ends q of at (λ same. absurd (omega (arith, same, l))))
  go q of at (inr (inr l)) = are.1 q of (set_elsewhere pages page ends q of at (λ same. absurd (omega (arith, same, l))))

-- A list that is the same has the same ends.
pub same_ends : (p : Option ℕ) (elements others : List Element) (pages more : List PageEnds) → others ≡ elements → more ≡ pages → AreEnds p elements pages → AreEnds p others more
same_ends p elements others pages more same alike are = subst (λ z. AreEnds p z more) (sym same) (subst (AreEnds p elements) (sym alike) are)

-- If no more elements of a page have left by the moment, the marks stay right.
pub marks_known : (p : Option ℕ) (now : ℕ) (elements : List Element) (page : ℕ) (ends : PageEnds) → p ≡ Some now → now < ends.staying → ArePageEnds p elements page ends → AreMarks (Some now) elements page ends.left
marks_known p now elements page ends is later are = (subst (λ z. ArePageEnds z elements page ends) is are).marks later

-- Nothing is known of no pages.
pub no_ends : (p : Option ℕ) (elements : List Element) → AreEnds p elements []
no_ends p elements = (omega arith, λ page of h. absurd (cc h))

-- ---- changes
pub differ_pushed : (elements : List Element) (e : Element) → DifferAt (length elements) elements (elements ++ e ∷ [])
differ_pushed elements e = (omega (arith, length-append elements (e ∷ [])), λ k x h other. go k x h other (cases_lt k (length elements))) where
  go : (k : ℕ) (x : Element) → slice_get (elements ++ e ∷ []) k ≡ Some x → (k ≡ length elements → ⊥) → (k < length elements) ⊎ (length elements ≤ k) → slice_get elements k ≡ Some x
  go k x h other (inl l) =
      slice_get-get_or elements k x l ∙ ap Some (sym (get_or_append_left elements (e ∷ []) x k l) ∙ get_or_from_slice_get (elements ++ e ∷ []) k x x h)
  go k x h other (inr l) =
      let long = length-append elements (e ∷ []) in
      let within = slice_get_within (elements ++ e ∷ []) k x h in
      absurd (other (omega (arith, long, within)))

pub differ_renewed : (elements : List Element) (i : ℕ) (expiry : Option ℕ) → DifferAt i elements (renewed_at elements i expiry)
differ_renewed elements i expiry = go (slice_get elements i) where
  go : (o : Option Element) → DifferAt i elements (renewed_element elements i expiry o)
  go None = (omega arith, λ k x h other. h)
  go (Some e) = (omega (arith, length-set elements i (record e { expiry = expiry })), λ k x h other. set_elsewhere elements i (record e { expiry = expiry }) k x h other)

-- The elements before a removed one keep their places.
pub removed_below : (elements : List Element) (i k : ℕ) (e : Element) → i < length elements → k < i → slice_get (remove elements i) k ≡ Some e → slice_get elements k ≡ Some e
removed_below elements i k e l b h =
    slice_get-get_or elements k e (omega arith) ∙ ap Some (sym (get_or-remove_below elements i e k b l) ∙ get_or_from_slice_get (remove elements i) k e e h)

-- An item of the first part of a list is at the same place in the list.
pub taken : {X : Type 0} (n : ℕ) (xs : List X) (k : ℕ) (x : X) → slice_get (take n xs) k ≡ Some x → (k < n) × (slice_get xs k ≡ Some x)
taken n xs k x h =
    let within = slice_get_within (take n xs) k x h in
    let long = length-take n xs in (
      omega (arith, within, long),
      slice_get-get_or xs k x (omega (arith, within, long)) ∙ ap Some (sym (get_or-take n xs k x (omega (arith, within, long))) ∙ get_or_from_slice_get (take n xs) k x x h),
    )

-- ---- pages of a list that differs at one place
module _ (p : Option ℕ) (i : ℕ) (elements others : List Element) (pages : List PageEnds) (are : AreEnds p elements pages) (differ : DifferAt i elements others) where
  -- The ends of a page without the place are the ends of that page of the other list.
  elsewhere : (page : ℕ) (ends : PageEnds) → slice_get pages page ≡ Some ends → (page ≡ i / 512 → ⊥) → ArePageEnds p others page ends
  elsewhere page ends at other = ends_there p elements others page ends (λ k e l there. differ.1 (512 * page + k) e there (λ here. other (omega (arith, here, l)))) (are.1 page ends at)

  pub ends_past : length pages ≤ i / 512 → AreEnds p others pages
  ends_past past = (omega (arith, are.0, differ.0), λ page ends at. elsewhere page ends at (λ here. absurd (omega (arith, here, past, slice_get_within pages page ends at))))

  -- Nothing is known of the page with the place.
  pub ends_forgotten : (none : PageEnds) → none.all ≡ 0 → none.staying ≡ 0 → AreEnds p others (slice_set pages (i / 512) none)
  ends_forgotten none all staying = (omega (arith, are.0, differ.0, length-set pages (i / 512) none), λ page ends at. go page ends at (same_or_not page (i / 512))) where
    unknown : (page : ℕ) (ends : PageEnds) → ends ≡ none → ArePageEnds p others page ends
    unknown page ends is =
        let first : ends.all ≡ 0 = ap (λ (z : PageEnds). z.all) is ∙ all in
        let second : ends.staying ≡ 0 = ap (λ (z : PageEnds). z.staying) is ∙ staying in
        record {
          moments = λ k e l at. (λ now before. absurd (omega (arith, before, first)), λ now before. absurd (omega (arith, before, second)));
          marks = λ before. absurd (omega (arith, before, second));
        }

    go : (page : ℕ) (ends : PageEnds) → slice_get (slice_set pages (i / 512) none) page ≡ Some ends → (page ≡ i / 512) ⊎ ((page < i / 512) ⊎ (i / 512 < page)) → ArePageEnds p others page ends
    go page ends at (inl here) = unknown page ends (set_there pages (i / 512) none ends (subst (λ n. slice_get (slice_set pages (i / 512) none) n ≡ Some ends) here at))
    go page ends at (inr (inl l)) = elsewhere page ends (set_elsewhere pages (i / 512) none page ends at (λ same. absurd (omega (arith, same, l)))) (λ same. absurd (omega (arith, same, l)))
    go page ends at (inr (inr l)) = elsewhere page ends (set_elsewhere pages (i / 512) none page ends at (λ same. absurd (omega (arith, same, l)))) (λ same. absurd (omega (arith, same, l)))
