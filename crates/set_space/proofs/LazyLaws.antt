-- What the image decides is what the set without the elements that left answers.
use Rattle.std.proofs.Common.{◌≡◌, refl, sym, ◌∙◌, ap, subst, ℕ, ◌+◌, ◌-◌, ◌<◌, ◌≤◌, ◌==◌, max, Bool, true, false, not, List, Option, Some, None, Result, Ok, Err, length, length-append, length-set, slice_get, arith}
use Rattle.std.specs.Prelude.{count_by, option_map, unwrap_or}
use Rattle.std.proofs.lemmas.Bool.Decides.{nat_tests}
use Rattle.std.proofs.lemmas.List.Edits.{length-remove}
use Rattle.std.proofs.lemmas.List.Filters.{length-filter_both}
use Rattle.std.proofs.lemmas.List.Quantifiers.{position-Some}
use Rattle.std.proofs.lemmas.List.Sums.{length-filter, count_by-le-length}
use Rattle.set_model.specs.declared.kind.Interval.{Interval}
use Rattle.set_model.specs.declared.element.Element.{Element}
use Rattle.set_model.specs.declared.element.NewElement.{NewElement}
use Rattle.set_model.specs.declared.packet.Found.{Found}
use Rattle.set_model.specs.declared.report.Why.{Why}
use Rattle.set_model.specs.declared.report.Why.TheVariants.{Overlap, Exists, Full, RulesFull, Missing}
use Rattle.set_model.specs.Expiry.{lives, live, renewed_at, renewed_element}
use Rattle.set_model.specs.SetState.{State, Addition, New, Refused, add, add_by, twin_place, start_in_the_way, end_in_the_way, sharing_in_the_way, is_full, crowded_field, is_exactly, exact_place, element_at, without_at, removed, purged, renewed}
use Rattle.expiry_scan.specs.Expired.{is_expired, is_leaving}
use Rattle.expiry_scan.proofs.PlaceLaws.{no_element}
use Rattle.pipapo_image.specs.declared.answers.ChangeError.{ChangeError}
use Rattle.pipapo_image.specs.declared.answers.ChangeError.TheVariants as errors
use Rattle.pipapo_image.specs.declared.image.decision.Decision.{Decision}
use Rattle.pipapo_image.specs.declared.image.decision.Decision.TheVariants.{Stays, Renews, Adds}
use Rattle.pipapo_image.specs.Image.Deciding.{is_full_with, add_if}
use Rattle.pipapo_image.specs.Image.Decision.{IsDecision, comes, set_left}
use Rattle.pipapo_image.specs.Image.Found.{found_at, exactly_found}
use Rattle.pipapo_image.proofs.Purging.{all_stay}
use Rattle.set_space.specs.LazyImage.{moment, is_at_limit, would_leave, wants_room, added_by, IsLazyDecision}
use Rattle.set_space.specs.Staying.{staying}
use Rattle.set_space.proofs.KeptItems.{filter-both}
use Rattle.set_space.proofs.KeptSets.{live-both, at_limit, kept_of, add-kept, removed-kept, marked-gone, whole-without}

-- a set that no element has left is its image
pub new_of : (p : Option ℕ) (s : State) → p ≡ None → staying p s ≡ s
new_of None s is = refl
new_of (Some m) s is = absurd (cc is)

-- ---- additions
limit-of : (why : Why) → at_limit (Refused why) ≡ is_at_limit (Err (errors.Refused why))
limit-of (Overlap id) = refl
limit-of (Exists id) = refl
limit-of Full = refl
limit-of (RulesFull f) = refl
limit-of Missing = refl

none-of : (decision : Decision) (next : ℕ) → at_limit (comes decision next) ≡ false
none-of (Stays id) next = refl
none-of (Renews i id) next = refl
none-of (Adds columns) next = refl

by-image : (m : ℕ) (s : State) (e : NewElement) (now : ℕ) (full : Bool) (r : Result Decision ChangeError) → full ≡ is_full (purged s m) → lives e.expiry m ≡ true → is_at_limit r ≡ false
    → IsDecision s e (add_if full s e (max m now)) r → IsLazyDecision (Some m) s e (add (purged s m) e now) r
by-image m s e now full (Ok decision) is l n h = (h.0, add-kept m s e now full is l (ap (λ z. at_limit z.0) h.1 ∙ none-of decision s.next) ∙ ap (kept_of m) h.1)
by-image m s e now full (Err (errors.Refused why)) is l n h = add-kept m s e now full is l (ap (λ z. at_limit z.0) h ∙ limit-of why ∙ n) ∙ ap (kept_of m) h
by-image m s e now full (Err errors.Memory) is l n h = tt

plain-decision : (s : State) (e : NewElement) (now : ℕ) (r : Result Decision ChangeError) → IsDecision s e (add s e now) r → IsLazyDecision None s e (add s e now) r
plain-decision s e now (Ok decision) h = h
plain-decision s e now (Err (errors.Refused why)) h = h
plain-decision s e now (Err errors.Memory) h = tt

live-of : (b : Bool) → not b ≡ false → b ≡ true
live-of true h = refl
live-of false h = absurd (cc h)

-- The image tests for the set whether it is full.
pub full_of : (p : Option ℕ) (s : State) (n : ℕ) (full : Bool) → n ≡ length (staying p s).elements → full ≡ is_full_with s n → full ≡ is_full (staying p s)
full_of None s n full is h = h ∙ ap (is_full_with s) is
full_of (Some m) s n full is h = h ∙ ap (is_full_with s) is

-- If the element stays and the number of rules doesn't refuse it, the image decides for the set.
pub lazy_decision : (p : Option ℕ) (s : State) (e : NewElement) (now : ℕ) (full : Bool) (r : Result Decision ChangeError)
    → would_leave p e.expiry ≡ false → full ≡ is_full (staying p s) → IsDecision s e (add_if full s e (moment p now)) r → wants_room p r ≡ false
    → IsLazyDecision p s e (add (staying p s) e now) r
lazy_decision None s e now full r l is h w = plain-decision s e now r (subst (λ f. IsDecision s e (add_if f s e now) r) is h)
lazy_decision (Some m) s e now full r l is h w = by-image m s e now full r is (live-of (lives e.expiry m) l) w h

-- ---- removals
-- To give an element the expiry 0 deletes it, if each other element of the set is live at that
-- moment.
pub marked : (p : Option ℕ) (s : State) (i : ℕ) → i < length s.elements → staying p s ≡ purged s (unwrap_or p 0) → purged (renewed s i (Some 0)) (unwrap_or p 0) ≡ staying p (without_at s i)
marked None s i l h = marked-gone 0 s i l ∙ whole-without 0 s i h
marked (Some m) s i l h = marked-gone m s i l

-- If no element has the expiry 0, all are live at moment 0.
pub none_expired : (p : Option ℕ) (s : State) (n : ℕ) → p ≡ None → n ≡ count_by (is_expired 0) s.elements → (n == 0) ≡ true → staying p s ≡ purged s (unwrap_or p 0)
none_expired None s n is count none = let zero : n ≡ 0 = grind (arith, nat_tests) in all_stay s 0 (sym count ∙ zero)
none_expired (Some m) s n is count none = refl

-- ---- how many elements there are
abbrev newness : Addition → ℕ
newness (New id) = 1
newness a = 0

newness-of : (decision : Decision) (next : ℕ) → newness (comes decision next) ≡ added_by decision
newness-of (Stays id) next = refl
newness-of (Renews i id) next = refl
newness-of (Adds columns) next = refl

length-renewed : (es : List Element) (i : ℕ) (x : Option ℕ) → length (renewed_at es i x) ≡ length es
length-renewed es i x = go (slice_get es i) where
  go : (o : Option Element) → length (renewed_element es i x o) ≡ length es
  go None = refl
  go (Some e) = length-set es i (record e { expiry = x })

grown-by : (s : State) (e : NewElement) (twin x at_start at_end sharing : Option ℕ) (full : Bool) (crowded : Option ℕ)
    → length (add_by s e twin x at_start at_end sharing full crowded).1.elements ≡ length s.elements + newness (add_by s e twin x at_start at_end sharing full crowded).0
grown-by s e (Some i) None at_start at_end sharing full crowded = omega arith
grown-by s e (Some i) (Some m) at_start at_end sharing full crowded = let same = length-renewed s.elements i (Some m) in omega (arith, same)
grown-by s e None x (Some i) at_end sharing full crowded = omega arith
grown-by s e None x None (Some i) sharing full crowded = omega arith
grown-by s e None x None None (Some i) full crowded = omega arith
grown-by s e None x None None None true crowded = omega arith
grown-by s e None x None None None false (Some f) = omega arith
grown-by s e None x None None None false None = length-append s.elements _

grown : (s : State) (e : NewElement) (now : ℕ) → length (add s e now).1.elements ≡ length s.elements + newness (add s e now).0
grown s e now =
    grown-by s e (twin_place s e.parts now) e.expiry (start_in_the_way s e.parts now) (end_in_the_way s e.parts now) (sharing_in_the_way s e.parts now) (is_full s) (crowded_field s e.parts)

-- A set has no more elements than its image.
pub staying_fewer : (p : Option ℕ) (s : State) → length (staying p s).elements ≤ length s.elements
staying_fewer None s = omega arith
staying_fewer (Some m) s = let a = length-filter (λ e. live e m) s.elements in let b = count_by-le-length (λ e. live e m) s.elements in omega (arith, a, b)

-- An addition adds as many elements as its decision says.
pub decision_grows : (p : Option ℕ) (s : State) (e : NewElement) (now n : ℕ) (decision : Decision) → n ≡ length (staying p s).elements
    → IsLazyDecision p s e (add (staying p s) e now) (Ok decision) → length (staying p (set_left s e decision)).elements ≡ n + added_by decision
decision_grows p s e now n decision is h =
    let all = grown (staying p s) e now in
    let state = ap (λ (a : Addition × State). length a.1.elements) h.1 in
    let new = ap (λ (a : Addition × State). newness a.0) h.1 ∙ newness-of decision s.next in
    omega (arith, all, state, new, is)

abbrev left-long : Option (ℕ × State) → ℕ
left-long None = 0
left-long (Some a) = length a.1.elements

-- A removal removes one element.
pub removed_falls : (s t : State) (parts : List Interval) (now id n : ℕ) → n ≡ length s.elements → removed s parts now ≡ Some (id, t) → length t.elements + 1 ≡ n
removed_falls s t parts now id n is h = go (exact_place s parts now) (λ i at. (position-Some (is_exactly parts now) s.elements i no_element at).0) h where
  go : (o : Option ℕ) → ((i : ℕ) → o ≡ Some i → i < length s.elements) → option_map {U = ℕ × State} (λ i. ((element_at s i).id, without_at s i)) o ≡ Some (id, t) → length t.elements + 1 ≡ n
  go None within h = absurd (cc h)
  go (Some i) within h =
      let one = length-remove s.elements i (within i refl) in
      let same = ap left-long h in
      omega (arith, one, same, is)

-- The elements that aren't expired are counted.
pub purged_count : (s : State) (now n gone : ℕ) → n ≡ length s.elements → gone ≡ count_by (is_expired now) s.elements → n - gone ≡ length (purged s now).elements
purged_count s now n gone is count =
    let both = length-filter_both (λ e. live e now) (is_expired now) (λ e. refl) s.elements in
    let expired = length-filter (is_expired now) s.elements in
    omega (arith, both, expired, is, count)

-- ---- purges
-- Two purges are one purge at the later moment.
pub purged_twice : (p : Option ℕ) (s : State) (now : ℕ) → purged s (moment p now) ≡ purged (staying p s) now
purged_twice None s now = refl
purged_twice (Some m) s now =
    let with_elements : List Element → State = λ es. record s { elements = es } in
    ap with_elements (sym (filter-both (λ e. live e m) (λ e. live e (max m now)) (λ e. live e now) (λ e. live-both e.expiry m now) s.elements))

-- The image's elements that are still in the set and are expired are the set's expired elements.
pub leaving_counted : (p : Option ℕ) (s : State) (now n : ℕ) → n ≡ count_by (is_leaving p now) s.elements → n ≡ count_by (is_expired now) (staying p s).elements
leaving_counted None s now n count = count
leaving_counted (Some m) s now n count =
    let same = filter-both (λ e. live e m) (is_leaving (Some m) now) (is_expired now) (λ e. refl) s.elements in
    count ∙ sym (length-filter (is_leaving (Some m) now) s.elements) ∙ ap length (sym same) ∙ length-filter (is_expired now) (purged s m).elements

removed-lazy : (p : Option ℕ) (s : State) (parts : List Interval) (now : ℕ) → removed (staying p s) parts now ≡ option_map (λ i. ((element_at s i).id, staying p (without_at s i))) (exact_place s parts (moment p now))
removed-lazy None s parts now = refl
removed-lazy (Some m) s parts now = removed-kept m s parts now

module _ (p : Option ℕ) (s : State) (parts : List Interval) (now : ℕ) where
  at-place : (f : Found) (o : Option ℕ) → Some f ≡ found_at s o → option_map {U = ℕ × State} (λ i. ((element_at s i).id, staying p (without_at s i))) o ≡ Some ((element_at s f.place).id, staying p (without_at s f.place))
  at-place f None h = absurd (cc h)
  at-place f (Some i) h =
      let is : f ≡ record { place = i; id = (element_at s i).id } = cc h in
      ap (λ (g : Found). Some ((element_at s g.place).id, staying p (without_at s g.place))) (sym is)

  at-none : (o : Option ℕ) → None ≡ found_at s o → option_map {U = ℕ × State} (λ i. ((element_at s i).id, staying p (without_at s i))) o ≡ None
  at-none None h = refl
  at-none (Some i) h = absurd (cc h)

  -- An element that is found is removed, and isn't missing.
  pub found_removed : (f : Found) → Some f ≡ exactly_found s parts (moment p now) → removed (staying p s) parts now ≡ Some ((element_at s f.place).id, staying p (without_at s f.place))
  found_removed f h = removed-lazy p s parts now ∙ at-place f (exact_place s parts (moment p now)) h

  pub is_there : (f : Found) → Some f ≡ exactly_found s parts (moment p now) → removed (staying p s) parts now ≡ None → ⊥
  is_there f h none = cc (sym (found_removed f h) ∙ none)

  pub is_missing : None ≡ exactly_found s parts (moment p now) → removed (staying p s) parts now ≡ None
  is_missing h = removed-lazy p s parts now ∙ at-none (exact_place s parts (moment p now)) h
