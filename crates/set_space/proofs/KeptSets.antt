-- A change of a set, and the same change of the set without the elements that are expired at a
-- moment.
use Rattle.std.proofs.Common.{◌≡◌, refl, sym, ◌∙◌, ap, ℕ, ◌+◌, ◌<◌, ◌≤◌, max, Bool, true, false, ◌&&◌, cond, nat_lt, List, [], ◌∷◌, ◌++◌, length, get_or, slice_set, Option, Some, None, arith}
use Rattle.std.specs.Prelude.{IfSome, if◌then◌else◌, filter, find, position, option_map, remove}
use Rattle.std.specs.List.{range_with_len}
use Rattle.std.proofs.lemmas.Bool.{and_parts}
use Rattle.std.proofs.lemmas.Bool.Decides.{nat_tests}
use Rattle.std.proofs.lemmas.List.Elements.{filter-append}
use Rattle.std.proofs.lemmas.List.Quantifiers.{position-Some}
use Rattle.std.proofs.lemmas.Option.{slice_get-get_or}
use Rattle.set_model.specs.declared.kind.Interval.{Interval}
use Rattle.set_model.specs.declared.element.Element.{Element}
use Rattle.set_model.specs.declared.element.NewElement.{NewElement}
use Rattle.set_model.specs.declared.report.Why.TheVariants.{Overlap, RulesFull}
use Rattle.set_model.specs.Key.{start_key, end_key, same_parts}
use Rattle.set_model.specs.Expiry.{lives, live, renewed_at, renewed_element}
use Rattle.set_model.specs.SetState.{State, Addition, New, Already, Renewed, Refused, holds, shares, answers, is_sharing, is_exactly, element_at, place, same_at, twin_place, sharing_place, start_in_the_way, end_in_the_way, sharing_in_the_way, is_full, is_crowded, crowded_field, field_blocks, field_rules, rules_limit, with_element, renewed, add, add_by, exact_place, without_at, removed, purged}
use Rattle.expiry_scan.proofs.PlaceLaws.{no_element}
use Rattle.pipapo_image.specs.Image.Deciding.{add_if}
use Rattle.pipapo_image.proofs.Purging.{filter-fewer}
use Rattle.set_space.proofs.KeptItems.{moved, moved-within, get_or-kept, remove-kept, set-kept, set-gone, remove-whole, position-both}

-- An element is live at the moment m.
abbrev stays : ℕ → Element → Bool
stays m e = live e m

-- its place among the elements that are live at the moment
abbrev moved_in : ℕ → State → ℕ → ℕ
moved_in m s i = moved (stays m) s.elements i

-- a place, if there is one, of an element that is live at the moment
abbrev StaysAt : ℕ → State → Option ℕ → Type 0
StaysAt m s o = IfSome o (λ i. (i < length s.elements) × (stays m (element_at s i) ≡ true))

-- ---- what is live at two moments is live at the later one
pub live-both : (x : Option ℕ) (m now : ℕ) → lives x (max m now) ≡ (lives x m && lives x now)
live-both None m now = refl
live-both (Some t) m now = before t where
  before : (t : ℕ) → nat_lt (max m now) t ≡ (nat_lt m t && nat_lt now t)
  before t = grind (arith, nat_tests)

with-test : (a b c t : Bool) → a ≡ (b && c) → (a && t) ≡ (b && (c && t))
with-test a true c t h = ap (λ z. z && t) h
with-test a false c t h = ap (λ z. z && t) h

module _ (m : ℕ) (s : State) (p : Element → Bool) (sub : (e : Element) → p e ≡ true → stays m e ≡ true) where
  place-stays : StaysAt m s (position p s.elements)
  place-stays = go (position p s.elements) (λ i h. position-Some p s.elements i no_element h) where
    go : (o : Option ℕ) → ((i : ℕ) → o ≡ Some i → (i < length s.elements) × (p (element_at s i) ≡ true) × ((k : ℕ) → k < i → p (get_or s.elements k no_element) ≡ false)) → StaysAt m s o
    go None h = tt
    go (Some i) h = let a = h i refl in (a.0, sub (element_at s i) a.1)

element-kept : (m : ℕ) (s : State) (i : ℕ) → i < length s.elements → stays m (element_at s i) ≡ true → element_at (purged s m) (moved_in m s i) ≡ element_at s i
element-kept m s i l h = get_or-kept (stays m) s.elements i no_element l h

pub answers-both : (key : List ℕ) (m now : ℕ) (e : Element) → answers key (max m now) e ≡ (stays m e && answers key now e)
answers-both key m now e = with-test _ (live e m) (live e now) (holds e key) (live-both e.expiry m now)

sharing-both : (parts : List Interval) (m now : ℕ) (e : Element) → is_sharing parts (max m now) e ≡ (stays m e && is_sharing parts now e)
sharing-both parts m now e = with-test _ (live e m) (live e now) (shares e parts) (live-both e.expiry m now)

exact-both : (parts : List Interval) (m now : ℕ) (e : Element) → is_exactly parts (max m now) e ≡ (stays m e && is_exactly parts now e)
exact-both parts m now e = with-test _ (live e m) (live e now) (same_parts e.parts parts) (live-both e.expiry m now)

-- an element that passes such a test is live at the moment
pub both-stay : (m : ℕ) (both p : Element → Bool) → ((e : Element) → both e ≡ (stays m e && p e)) → (e : Element) → both e ≡ true → stays m e ≡ true
both-stay m both p each e h = (and_parts (stays m e) (p e) (sym (each e) ∙ h)).0

-- ---- the places that decide an addition
twin-kept : (m : ℕ) (s : State) (parts : List Interval) (o : Option ℕ) → StaysAt m s o
    → (same_at (purged s m) parts (option_map (moved_in m s) o) ≡ option_map (moved_in m s) (same_at s parts o)) × StaysAt m s (same_at s parts o)
twin-kept m s parts None h = (refl, tt)
twin-kept m s parts (Some i) h =
    let one = ap (λ (e : Element). if same_parts e.parts parts then Some (moved_in m s i) else None) (element-kept m s i h.0 h.1) in
    let both = go (same_parts (element_at s i).parts parts) in
    (one ∙ both.0, both.1) where
      go : (t : Bool) → ((if t then Some (moved_in m s i) else None) ≡ option_map (moved_in m s) (if t then Some i else None)) × StaysAt m s (if t then Some i else None)
      go true = (refl, h)
      go false = (refl, tt)

-- a place that counts if a test fails, and one that counts if it passes
else-kept : (m : ℕ) (s : State) (t : Bool) (o : Option ℕ) → StaysAt m s o
    → ((if t then None else option_map (moved_in m s) o) ≡ option_map (moved_in m s) (if t then None else o)) × StaysAt m s (if t then None else o)
else-kept m s true o h = (refl, tt)
else-kept m s false o h = (refl, h)

then-kept : (m : ℕ) (s : State) (t : Bool) (o : Option ℕ) → StaysAt m s o
    → ((if t then option_map (moved_in m s) o else None) ≡ option_map (moved_in m s) (if t then o else None)) × StaysAt m s (if t then o else None)
then-kept m s true o h = (refl, h)
then-kept m s false o h = (refl, tt)

-- ---- fewer elements have fewer rules
find-fewer : {X : Type 0} (p q : X → Bool) (xs : List X) → ((x : X) → q x ≡ true → p x ≡ true) → find p xs ≡ None → find q xs ≡ None
find-fewer p q [] less h = refl
find-fewer {X} p q (x ∷ xs) less h = go (p x) (q x) (less x) (λ g. find-fewer p q xs less g) h where
  go : (t u : Bool) → (u ≡ true → t ≡ true) → (find p xs ≡ None → find q xs ≡ None) → cond t (Some x) (find p xs) ≡ None → cond u (Some x) (find q xs) ≡ None
  go true u s ih h = absurd (cc h)
  go false true s ih h = absurd (cc (s refl))
  go false false s ih h = ih h

uncrowded : (m : ℕ) (s : State) (parts : List Interval) → crowded_field s parts ≡ None → crowded_field (purged s m) parts ≡ None
uncrowded m s parts h = find-fewer (is_crowded s parts) (is_crowded (purged s m) parts) (range_with_len 0 (length s.kinds)) less h where
  more : (m n k : ℕ) → m ≤ n → nat_lt rules_limit (m + k) ≡ true → nat_lt rules_limit (n + k) ≡ true
  more m n k l h = grind (arith, nat_tests)

  less : (f : ℕ) → is_crowded (purged s m) parts f ≡ true → is_crowded s parts f ≡ true
  less f h =
      more (length (field_rules s.kinds f (purged s m).elements)) (length (field_rules s.kinds f s.elements)) (length (field_blocks s.kinds f parts))
      (filter-fewer (λ e. field_blocks s.kinds f e.parts) (stays m) s.elements) h

-- ---- renewals and removals
renewed-set : (es : List Element) (i : ℕ) (x : Option ℕ) → i < length es → renewed_at es i x ≡ slice_set es i (record (get_or es i no_element) { expiry = x })
renewed-set es i x l = ap (renewed_element es i x) (slice_get-get_or es i no_element l)

renewed-kept : (m : ℕ) (s : State) (i : ℕ) (x : Option ℕ) → i < length s.elements → stays m (element_at s i) ≡ true → lives x m ≡ true
    → renewed (purged s m) (moved_in m s i) x ≡ purged (renewed s i x) m
renewed-kept m s i x l h k =
    let new : Element → Element = λ e. record e { expiry = x } in
    let with_elements : List Element → State = λ es. record s { elements = es } in
    let within = moved-within (stays m) s.elements i no_element l h in
    ap with_elements (
    renewed-set (purged s m).elements (moved_in m s i) x within
    ∙ ap (λ e. slice_set (purged s m).elements (moved_in m s i) (new e)) (element-kept m s i l h)
    ∙ set-kept (stays m) s.elements i (new (element_at s i)) no_element l h k
    ∙ ap (filter (stays m)) (sym (renewed-set s.elements i x l))
    )

-- An element that gets the expiry 0 is removed.
pub marked-gone : (m : ℕ) (s : State) (i : ℕ) → i < length s.elements → purged (renewed s i (Some 0)) m ≡ purged (without_at s i) m
marked-gone m s i l =
    let with_elements : List Element → State = λ es. record s { elements = es } in
    ap with_elements (ap (filter (stays m)) (renewed-set s.elements i (Some 0) l) ∙ set-gone (stays m) s.elements i (record (element_at s i) { expiry = Some 0 }) l (never m)) where
      never : (m : ℕ) → nat_lt m 0 ≡ false
      never m = grind (arith, nat_tests)

-- If no element is expired at the moment, none is after one is removed.
pub whole-without : (m : ℕ) (s : State) (i : ℕ) → s ≡ purged s m → purged (without_at s i) m ≡ without_at s i
whole-without m s i h =
    let with_elements : List Element → State = λ es. record s { elements = es } in
    ap with_elements (remove-whole (stays m) s.elements i (sym (ap (λ (t : State). t.elements) h)))

-- A removal from a set, and from the set without the elements that are expired at the moment.
pub removed-kept : (m : ℕ) (s : State) (parts : List Interval) (now : ℕ)
    → removed (purged s m) parts now ≡ option_map (λ i. ((element_at s i).id, purged (without_at s i) m)) (exact_place s parts (max m now))
removed-kept m s parts now =
    ap (option_map (λ i. ((element_at (purged s m) i).id, without_at (purged s m) i))) (position-both (stays m) (is_exactly parts (max m now)) (is_exactly parts now) (exact-both parts m now) s.elements)
    ∙ go (exact_place s parts (max m now)) (place-stays m s (is_exactly parts (max m now)) (both-stay m (is_exactly parts (max m now)) (is_exactly parts now) (exact-both parts m now))) where
      go : (o : Option ℕ) → StaysAt m s o
          → option_map {U = ℕ × State} (λ i. ((element_at (purged s m) i).id, without_at (purged s m) i)) (option_map (moved_in m s) o) ≡ option_map (λ i. ((element_at s i).id, purged (without_at s i) m)) o
      go None h = refl
      go (Some i) h =
          let pair : Element → List Element → Option (ℕ × State) = λ e es. Some (e.id, record s { elements = es }) in
          ap (λ e. pair e (remove (purged s m).elements (moved_in m s i))) (element-kept m s i h.0 h.1) ∙ ap (pair (element_at s i)) (remove-kept (stays m) s.elements i no_element h.0 h.1)

-- ---- additions
-- The number of rules refuses an addition.
abbrev pub at_limit : Addition → Bool
at_limit (Refused (RulesFull f)) = true
at_limit a = false

-- what an addition does, and the set that it leaves without the elements that are expired at the
-- moment
abbrev pub kept_of : ℕ → Addition × State → Addition × State
kept_of m a = (a.0, purged a.1 m)

added-kept : (m : ℕ) (s : State) (e : NewElement) → lives e.expiry m ≡ true → with_element (purged s m) e ≡ purged (with_element s e) m
added-kept m s e h =
    let new : Element = record { id = s.next; parts = e.parts; expiry = e.expiry; comment = e.comment } in
    let make : List Element → State = λ es. record s { elements = es; next = s.next + 1 } in
    let one : filter (stays m) (new ∷ []) ≡ new ∷ [] = ap (λ t. cond t (new ∷ []) []) h in
    ap make (sym (filter-append (stays m) s.elements (new ∷ []) ∙ ap (λ z. (purged s m).elements ++ z) one))

by-case : (m : ℕ) (s : State) (e : NewElement) (twin x at_start at_end sharing crowded crowded' : Option ℕ) (full : Bool) → lives e.expiry m ≡ true → lives x m ≡ true
    → StaysAt m s twin → StaysAt m s at_start → StaysAt m s at_end → StaysAt m s sharing → (crowded ≡ None → crowded' ≡ None)
    → at_limit (add_by s e twin x at_start at_end sharing full crowded).0 ≡ false
    → add_by (purged s m) e (option_map (moved_in m s) twin) x (option_map (moved_in m s) at_start) (option_map (moved_in m s) at_end) (option_map (moved_in m s) sharing) full crowded'
    ≡ kept_of m (add_by s e twin x at_start at_end sharing full crowded)
by-case m s e (Some i) None at_start at_end sharing c c' f l k t a b d cw h = ap (λ (z : Element). (Already z.id, purged s m)) (element-kept m s i t.0 t.1)
by-case m s e (Some i) (Some x) at_start at_end sharing c c' f l k t a b d cw h =
    ap (λ (z : Element). (Renewed z.id, renewed (purged s m) (moved_in m s i) (Some x))) (element-kept m s i t.0 t.1)
    ∙ ap (λ z. (Renewed (element_at s i).id, z)) (renewed-kept m s i (Some x) t.0 t.1 k)
by-case m s e None x (Some i) at_end sharing c c' f l k t a b d cw h = ap (λ (z : Element). (Refused (Overlap z.id), purged s m)) (element-kept m s i a.0 a.1)
by-case m s e None x None (Some i) sharing c c' f l k t a b d cw h = ap (λ (z : Element). (Refused (Overlap z.id), purged s m)) (element-kept m s i b.0 b.1)
by-case m s e None x None None (Some i) c c' f l k t a b d cw h = ap (λ (z : Element). (Refused (Overlap z.id), purged s m)) (element-kept m s i d.0 d.1)
by-case m s e None x None None None c c' true l k t a b d cw h = refl
by-case m s e None x None None None (Some g) c' false l k t a b d cw h = absurd (cc h)
by-case m s e None x None None None None c' false l k t a b d cw h =
    ap (λ z. add_by (purged s m) e None x None None None false z) (cw refl) ∙ ap (λ z. (New s.next, z)) (added-kept m s e l)

-- An addition that the number of rules doesn't refuse does the same in both sets, if both know
-- whether the smaller one is full.
pub add-kept : (m : ℕ) (s : State) (e : NewElement) (now : ℕ) (full : Bool) → full ≡ is_full (purged s m) → lives e.expiry m ≡ true → at_limit (add_if full s e (max m now)).0 ≡ false
    → add (purged s m) e now ≡ kept_of m (add_if full s e (max m now))
add-kept m s e now full is l h =
    let M = moved_in m s in
    let n = max m now in
    let t = purged s m in
    let at = λ (key : List ℕ). position-both (stays m) (answers key n) (answers key now) (answers-both key m now) s.elements in
    let stay = λ (key : List ℕ). place-stays m s (answers key n) (both-stay m (answers key n) (answers key now) (answers-both key m now)) in
    let start = start_key e.parts in
    let end = end_key e.parts in
    let twin = twin-kept m s e.parts (place s start n) (stay start) in
    let at_start = else-kept m s s.disjoint (place s start n) (stay start) in
    let at_end = else-kept m s s.disjoint (place s end n) (stay end) in
    let sharing = then-kept m s s.disjoint (sharing_place s e.parts n) (place-stays m s (is_sharing e.parts n) (both-stay m (is_sharing e.parts n) (is_sharing e.parts now) (sharing-both e.parts m now))) in
    ap (λ f. add_if f t e now) (sym is)
    ∙ ap (λ o. add_by t e (same_at t e.parts o) e.expiry (if s.disjoint then None else o) (end_in_the_way t e.parts now) (sharing_in_the_way t e.parts now) full (crowded_field t e.parts)) (at start)
    ∙ ap (λ o. add_by t e o e.expiry (if s.disjoint then None else option_map M (place s start n)) (end_in_the_way t e.parts now) (sharing_in_the_way t e.parts now) full (crowded_field t e.parts)) twin.0
    ∙ ap (λ o. add_by t e (option_map M (twin_place s e.parts n)) e.expiry o (end_in_the_way t e.parts now) (sharing_in_the_way t e.parts now) full (crowded_field t e.parts)) at_start.0
    ∙ ap (λ o. add_by t e (option_map M (twin_place s e.parts n)) e.expiry (option_map M (start_in_the_way s e.parts n)) o (sharing_in_the_way t e.parts now) full (crowded_field t e.parts))
    (ap (λ o. if s.disjoint then None else o) (at end) ∙ at_end.0)
    ∙ ap (λ o. add_by t e (option_map M (twin_place s e.parts n)) e.expiry (option_map M (start_in_the_way s e.parts n)) (option_map M (end_in_the_way s e.parts n)) o full (crowded_field t e.parts))
    (ap (λ o. if s.disjoint then o else None) (position-both (stays m) (is_sharing e.parts n) (is_sharing e.parts now) (sharing-both e.parts m now) s.elements) ∙ sharing.0)
    ∙ by-case m s e (twin_place s e.parts n) e.expiry (start_in_the_way s e.parts n) (end_in_the_way s e.parts n) (sharing_in_the_way s e.parts n) (crowded_field s e.parts) (crowded_field t e.parts) full
    l l twin.1 at_start.1 at_end.1 sharing.1 (uncrowded m s e.parts) h
