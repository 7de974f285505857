-- The element of an accepted addition is the first live one that holds its start key.
use Rattle.std.proofs.Common.{◌≡◌, ◌≢◌, refl, sym, ◌∙◌, ap, subst, ℕ, ◌<◌, Bool, true, false, ◌&&◌, ◌==◌, nat_le, List, [], ◌∷◌, ◌++◌, length, length-append, length-set, get_or, set, get_or-set_same, get_or-set_other, Option, Some, None, arith}
use Rattle.std.specs.Prelude.{if◌then◌else◌}
use Rattle.std.specs.List.{list_all, zip}
use Rattle.std.proofs.lemmas.Bool.{and_parts, and_from}
use Rattle.std.proofs.lemmas.Bool.Decides.{nat_tests}
use Rattle.std.proofs.lemmas.List.{get_or_append_left, get_or_push}
use Rattle.std.proofs.lemmas.List.Quantifiers.{position-Some}
use Rattle.std.proofs.lemmas.Option.{slice_get-get_or}
use Rattle.mapping_table.proofs.LedLaws.{position-first, position-nowhere}
use Rattle.set_tables.proofs.RowLaws.{position-none}
use Rattle.set_model.specs.declared.kind.Kind.{Kind}
use Rattle.set_model.specs.declared.kind.Interval.{Interval}
use Rattle.set_model.specs.declared.element.Element.{Element}
use Rattle.set_model.specs.declared.element.NewElement.{NewElement}
use Rattle.set_model.specs.Key.{start_key, parts_fit, intervals_fit, is_good, is_value, contains, parts_hold, parts_share, same_parts}
use Rattle.set_model.specs.Expiry.{lives, live, renewed_element}
use Rattle.set_model.specs.SetState.{State, holds, shares, answers, is_sharing, element_at, place, same_at, twin_place, sharing_place, start_in_the_way, end_in_the_way, sharing_in_the_way, is_full, crowded_field, with_element, renewed, add_by}
use Rattle.expiry_scan.proofs.PlaceLaws.{no_element}
use Rattle.pipapo_image.specs.Image.Found.{found_at}
use Rattle.pipapo_image.specs.Image.Accepted.{accepted_id, IsShown, ShowsAccepted}
use Rattle.pipapo_image.proofs.ExactLaws.{exact-holds}
use Rattle.pipapo_image.proofs.ImageUse.{parts-long}

-- the first element that holds the start key, if it has these intervals
shown : (s : State) (parts : List Interval) (now i : ℕ) → Some i ≡ place s (start_key parts) now → same_parts (element_at s i).parts parts ≡ true → IsShown s parts now (element_at s i).id
shown s parts now i h same = record { at = i; found_is = ap (found_at s) (sym h); same = same }

-- ---- the element that is there already
twin-at : (s : State) (parts : List Interval) (o : Option ℕ) (i : ℕ) → same_at s parts o ≡ Some i → (o ≡ Some i) × (same_parts (element_at s i).parts parts ≡ true)
twin-at s parts None i h = absurd (cc h)
twin-at s parts (Some j) i h = go (same_parts (element_at s j).parts parts) refl h where
  go : (t : Bool) → same_parts (element_at s j).parts parts ≡ t → (if t then Some j else None) ≡ Some i → (Some j ≡ Some i) × (same_parts (element_at s i).parts parts ≡ true)
  go true is h = let one : j ≡ i = cc h in (h, subst (λ k. same_parts (element_at s k).parts parts ≡ true) one is)
  go false is h = absurd (cc h)

renewed-shown : (s : State) (parts : List Interval) (now i : ℕ) (x : Option ℕ) → place s (start_key parts) now ≡ Some i → same_parts (element_at s i).parts parts ≡ true → lives x now ≡ true
    → IsShown (renewed s i x) parts now (element_at s i).id
renewed-shown s parts now i x h same fresh =
    let es = s.elements in
    let test : Element → Bool = answers (start_key parts) now in
    let n : Element = record (element_at s i) { expiry = x } in
    let was = position-Some test es i no_element h in
    let holding = and_parts (live (element_at s i) now) (holds (element_at s i) (start_key parts)) was.1 in
    let here : get_or (set es i n) i no_element ≡ n = get_or-set_same es i n no_element was.0 in
    let before : (k : ℕ) → k < i → test (get_or (set es i n) k no_element) ≡ false =
    λ k l. let other : k ≢ i = omega arith in ap test (get_or-set_other es i k n no_element other) ∙ was.2 k l in
    let long = length-set es i n in
    let within = was.0 in
    let first : Some i ≡ place (record s { elements = set es i n }) (start_key parts) now =
    position-first test (set es i n) i no_element (omega (arith, long, within)) before (ap test here ∙ and_from (lives x now) (holds n (start_key parts)) fresh holding.1) in
    let new : IsShown (record s { elements = set es i n }) parts now (element_at s i).id =
    subst (IsShown (record s { elements = set es i n }) parts now) (ap (λ (e : Element). e.id) here)
    (shown (record s { elements = set es i n }) parts now i first (ap (λ (e : Element). same_parts e.parts parts) here ∙ same)) in
    subst (λ z. IsShown (record s { elements = z }) parts now (element_at s i).id) (sym (ap (renewed_element es i x) (slice_get-get_or es i no_element was.0))) new

-- ---- a new element
same-number : (n : ℕ) → (n == n) ≡ true
same-number n = grind (arith, nat_tests)

same-ends : (parts : List Interval) → list_all (λ p. (p.0.low == p.1.low) && (p.0.high == p.1.high)) (zip parts parts) ≡ true
same-ends [] = refl
same-ends (p ∷ parts) =
    and_from ((p.low == p.low) && (p.high == p.high)) (list_all (λ p. (p.0.low == p.1.low) && (p.0.high == p.1.high)) (zip parts parts))
    (and_from (p.low == p.low) (p.high == p.high) (same-number p.low) (same-number p.high)) (same-ends parts)

same-self : (parts : List Interval) → same_parts parts parts ≡ true
same-self parts = and_from (length parts == length parts) (list_all (λ p. (p.0.low == p.1.low) && (p.0.high == p.1.high)) (zip parts parts)) (same-number (length parts)) (same-ends parts)

-- Nobody holds the start key, so the new element is the first that does.
new-shown : (s : State) (e : NewElement) (now : ℕ) → parts_fit s.kinds e.parts ≡ true → lives e.expiry now ≡ true → place s (start_key e.parts) now ≡ None → IsShown (with_element s e) e.parts now s.next
new-shown s e now fit fresh none =
    let es = s.elements in
    let test : Element → Bool = answers (start_key e.parts) now in
    let n : Element = record { id = s.next; parts = e.parts; expiry = e.expiry; comment = e.comment } in
    let at = length es in
    let here : get_or (es ++ n ∷ []) at no_element ≡ n = get_or_push es n no_element at refl in
    let long = length-append es (n ∷ []) in
    let first : Some at ≡ place (with_element s e) (start_key e.parts) now =
    position-first test (es ++ n ∷ []) at no_element (omega (arith, long)) (λ k l. ap test (get_or_append_left es (n ∷ []) no_element k l) ∙ position-none test es k no_element none l)
    (ap test here ∙ exact-holds s.kinds e.parts now n fit (and_from (live n now) (same_parts n.parts e.parts) fresh (same-self e.parts))) in
    subst (IsShown (with_element s e) e.parts now) (ap (λ (z : Element). z.id) here)
    (shown (with_element s e) e.parts now at first (ap (λ (z : Element). same_parts z.parts e.parts) here ∙ same-self e.parts))

-- ---- nobody holds the start key
low-shares : (xl xh pl ph : ℕ) → (nat_le xl pl && nat_le pl xh) ≡ true → nat_le pl ph ≡ true → (nat_le xl ph && nat_le pl xh) ≡ true
low-shares xl xh pl ph h g =
    let a = and_parts (nat_le xl pl) (nat_le pl xh) h in
    and_from (nat_le xl ph) (nat_le pl xh) (over xl pl ph a.0 g) a.1 where
      over : (xl pl ph : ℕ) → nat_le xl pl ≡ true → nat_le pl ph ≡ true → nat_le xl ph ≡ true
      over xl pl ph a b = grind (arith, nat_tests)

-- what holds the start key of good intervals shares a key with them
start-shares : (kinds : List Kind) (xs parts : List Interval) → length kinds ≡ length parts → intervals_fit kinds parts ≡ true → parts_hold xs (start_key parts) ≡ true → parts_share xs parts ≡ true
start-shares kinds [] parts n fit h = refl
start-shares kinds (x ∷ xs) [] n fit h = refl
start-shares [] (x ∷ xs) (p ∷ parts) n fit h = absurd (omega arith)
start-shares (k ∷ kinds) (x ∷ xs) (p ∷ parts) n fit h =
    let a = and_parts (is_good k p) (intervals_fit kinds parts) fit in
    let b = and_parts (nat_le p.low p.high) (is_value k p.high) a.0 in
    let c = and_parts (contains x p.low) (parts_hold xs (start_key parts)) h in
    and_from (nat_le x.low p.high && nat_le p.low x.high) (parts_share xs parts) (low-shares x.low x.high p.low p.high c.0 b.0) (start-shares kinds xs parts (omega arith) a.1 c.1)

unshared : (kinds : List Kind) (parts : List Interval) (now : ℕ) (e : Element) → parts_fit kinds parts ≡ true → is_sharing parts now e ≡ false → answers (start_key parts) now e ≡ false
unshared kinds parts now e fit un = go (answers (start_key parts) now e) refl where
  go : (t : Bool) → answers (start_key parts) now e ≡ t → t ≡ false
  go false h = refl
  go true h =
      let a = and_parts (length kinds == length parts) (intervals_fit kinds parts) fit in
      let b = and_parts (live e now) (holds e (start_key parts)) h in
      absurd (cc (and_from (live e now) (shares e parts) b.0 (start-shares kinds e.parts parts (sym (parts-long kinds parts fit)) a.1 b.1), un))

nobody-holds : (s : State) (parts : List Interval) (now : ℕ) → parts_fit s.kinds parts ≡ true → sharing_place s parts now ≡ None → place s (start_key parts) now ≡ None
nobody-holds s parts now fit none =
    sym (position-nowhere (answers (start_key parts) now) s.elements no_element
    (λ k l. unshared s.kinds parts now (get_or s.elements k no_element) fit (position-none (is_sharing parts now) s.elements k no_element none l)))

nobody-there : (s : State) (parts : List Interval) (now : ℕ) (d : Bool) → s.disjoint ≡ d → parts_fit s.kinds parts ≡ true → start_in_the_way s parts now ≡ None → sharing_in_the_way s parts now ≡ None
    → place s (start_key parts) now ≡ None
nobody-there s parts now false is fit start sharing = sym (ap (λ t. if t then None else place s (start_key parts) now) is) ∙ start
nobody-there s parts now true is fit start sharing = nobody-holds s parts now fit (sym (ap (λ t. if t then sharing_place s parts now else None) is) ∙ sharing)

-- ---- case by case
pub shows-accepted : ShowsAccepted
shows-accepted s e now id fit fresh =
    go (twin_place s e.parts now) e.expiry (start_in_the_way s e.parts now) (end_in_the_way s e.parts now) (sharing_in_the_way s e.parts now) (is_full s) (crowded_field s e.parts) refl fresh refl refl where
      go : (twin x at_start at_end sharing : Option ℕ) (full : Bool) (crowded : Option ℕ) → twin_place s e.parts now ≡ twin → lives x now ≡ true → start_in_the_way s e.parts now ≡ at_start → sharing_in_the_way s e.parts now ≡ sharing
          → accepted_id (add_by s e twin x at_start at_end sharing full crowded).0 ≡ Some id → IsShown (add_by s e twin x at_start at_end sharing full crowded).1 e.parts now id
      go (Some i) None at_start at_end sharing full crowded t f a b h =
          let twin = twin-at s e.parts (place s (start_key e.parts) now) i t in
          subst (IsShown s e.parts now) (cc h) (shown s e.parts now i (sym twin.0) twin.1)
      go (Some i) (Some m) at_start at_end sharing full crowded t f a b h =
          let twin = twin-at s e.parts (place s (start_key e.parts) now) i t in
          subst (IsShown (renewed s i (Some m)) e.parts now) (cc h) (renewed-shown s e.parts now i (Some m) twin.0 twin.1 f)
      go None x (Some i) at_end sharing full crowded t f a b h = absurd (cc h)
      go None x None (Some i) sharing full crowded t f a b h = absurd (cc h)
      go None x None None (Some i) full crowded t f a b h = absurd (cc h)
      go None x None None None true crowded t f a b h = absurd (cc h)
      go None x None None None false (Some j) t f a b h = absurd (cc h)
      go None x None None None false None t f a b h = subst (IsShown (with_element s e) e.parts now) (cc h) (new-shown s e now fit fresh (nobody-there s e.parts now s.disjoint refl fit a b))
