-- The gaps of an image are the elements that left the set. These laws say what the set without them
-- answers.
use Rattle.std.proofs.Common.{◌≡◌, refl, sym, ◌∙◌, ap, ℕ, ◌+◌, ◌-◌, ◌<◌, ◌≤◌, min, max, Bool, true, false, not, cond, List, [], ◌∷◌, length, take, get_or, slice_get, Option, Some, None, arith, length-take, length-take-le, take_all}
use Rattle.std.specs.Prelude.{option_map, count_by, map, filter}
use Rattle.std.proofs.lemmas.List.{length-map, take-map}
use Rattle.std.proofs.lemmas.List.Filters.{length-filter_both}
use Rattle.std.proofs.lemmas.List.Quantifiers.{position-Some}
use Rattle.std.proofs.lemmas.List.Sums.{length-filter, sum_by-cons, sum_by_more, count_by-le-length}
use Rattle.std.proofs.lemmas.Bool.{not-false}
use Rattle.std.proofs.lemmas.Option.{slice_get-get_or}
use Rattle.bit_rows.specs.Ranked.{rank}
use Rattle.bit_rows.proofs.Ranks.{rank-few}
use Rattle.set_model.specs.declared.element.Element.{Element}
use Rattle.set_model.specs.declared.packet.Found.{Found}
use Rattle.set_model.specs.Expiry.{live}
use Rattle.set_model.specs.SetState.{State, answers, place, element_at, purged}
use Rattle.expiry_scan.specs.Expired.{is_expired}
use Rattle.expiry_scan.proofs.PlaceLaws.{no_element}
use Rattle.pipapo_image.specs.Image.Found.{found, found_at}
use Rattle.set_space.specs.LazyImage.{moment}
use Rattle.set_space.specs.Staying.{staying}
use Rattle.set_space.specs.KeptSet.{gap_marks, gaps_before, IsBetween}
use Rattle.set_space.proofs.KeptItems.{moved, moved-within, get_or-kept, position-both}
use Rattle.set_space.proofs.KeptSets.{answers-both, both-stay}

-- ---- the gaps of an image
marks-counted : {X : Type 0} (p : X → Bool) (xs : List X) → count_by (λ b. b) (map p xs) ≡ count_by p xs
marks-counted p [] = refl
marks-counted p (x ∷ xs) =
    sum_by-cons (λ b. cond b 1 0) (p x) (map p xs) ∙ ap (λ n. cond (p x) 1 0 + n) (marks-counted p xs) ∙ sym (sum_by-cons (λ y. cond (p y) 1 0) x xs)

-- The rank of a place is the number of gaps before it.
pub gaps_ranked : (passed : Option ℕ) (image : State) (gaps : List Bool) (i : ℕ) → gaps ≡ gap_marks passed image → i ≤ length image.elements
    → rank gaps (min i (length gaps)) ≡ gaps_before passed image i
gaps_ranked None image gaps i e l = let none = ap length e in let few = rank-few gaps (min i (length gaps)) in omega (arith, none, few)
gaps_ranked (Some m) image gaps i e l =
    let p = is_expired m in
    let long : length gaps ≡ length image.elements = ap length e ∙ length-map image.elements p in
    let within : min i (length gaps) ≡ i = omega (arith, long, l) in
    ap (rank gaps) within ∙ ap (λ z. rank z i) e ∙ ap (count_by (λ b. b)) (take-map p i image.elements) ∙ marks-counted p (take i image.elements)

-- ---- moments
-- An element is live at two moments exactly if it is live at the later one.
answers-lived : (key : List ℕ) (m now : ℕ) (e : Element) → answers key (max m now) e ≡ true → live e m ≡ true
answers-lived key m now e h = both-stay m (answers key (max m now)) (answers key now) (answers-both key m now) e h

-- ---- lookups
place-kept : (image : State) (m : ℕ) (key : List ℕ) (now : ℕ) → place (purged image m) key now ≡ option_map (moved (λ e. live e m) image.elements) (place image key (max m now))
place-kept image m key now = position-both (λ e. live e m) (answers key (max m now)) (answers key now) (answers-both key m now) image.elements

moved-is : (image : State) (m i : ℕ) → i ≤ length image.elements → moved (λ e. live e m) image.elements i ≡ i - gaps_before (Some m) image i
moved-is image m i l =
    let both = length-filter_both (λ e. live e m) (is_expired m) (λ e. refl) (take i image.elements) in
    let gone = length-filter (is_expired m) (take i image.elements) in
    let long = length-take-le i image.elements l in
    omega (arith, both, gone, long)

-- an answer of the image as an answer of the set: the place less the gaps before it
abbrev pub closed : Option ℕ → State → Found → Found
closed passed image f = record { place = f.place - gaps_before passed image f.place; id = f.id }

place-live : (image : State) (m : ℕ) (key : List ℕ) (now i : ℕ) → place image key (max m now) ≡ Some i → (i < length image.elements) × (live (element_at image i) m ≡ true)
place-live image m key now i h =
    let at = position-Some (answers key (max m now)) image.elements i no_element h in
    (at.0, answers-lived key m now (element_at image i) at.1)

found-closed : (passed : Option ℕ) (image : State) (key : List ℕ) (now : ℕ) → found (staying passed image) key now ≡ option_map (closed passed image) (found image key (moment passed now))
found-closed None image key now = go (place image key now) where
  go : (o : Option ℕ) → found_at image o ≡ option_map (closed None image) (found_at image o)
  go None = refl
  go (Some i) = let same : i ≡ i - 0 = omega arith in ap (λ z. Some (record { place = z; id = (element_at image i).id })) same
found-closed (Some m) image key now = ap (found_at (purged image m)) (place-kept image m key now) ∙ go (place image key (max m now)) (place-live image m key now) where
  go : (o : Option ℕ) → ((i : ℕ) → o ≡ Some i → (i < length image.elements) × (live (element_at image i) m ≡ true))
      → found_at (purged image m) (option_map (moved (λ e. live e m) image.elements) o) ≡ option_map (closed (Some m) image) (found_at image o)
  go None h = refl
  go (Some i) h =
      let in_list = h i refl in
      let same = get_or-kept (λ e. live e m) image.elements i no_element in_list.0 in_list.1 in
      ap (λ (z : Element). Some (record { place = moved (λ e. live e m) image.elements i; id = z.id })) same
      ∙ ap (λ z. Some (record { place = z; id = (element_at image i).id })) (moved-is image m i (omega (arith, in_list.0)))

module _ (passed : Option ℕ) (image : State) (key : List ℕ) (now : ℕ) where
  pub found_some : (f : Found) → Some f ≡ found image key (moment passed now) → Some (closed passed image f) ≡ found (staying passed image) key now
  found_some f h = ap (option_map (closed passed image)) h ∙ sym (found-closed passed image key now)

  pub found_none : None ≡ found image key (moment passed now) → None ≡ found (staying passed image) key now
  found_none h = ap (option_map (closed passed image)) h ∙ sym (found-closed passed image key now)

pub found_within : (image : State) (key : List ℕ) (at : ℕ) (f : Found) → Some f ≡ found image key at → f.place < length image.elements
found_within image key at f h = go (place image key at) refl h where
  go : (o : Option ℕ) → place image key at ≡ o → Some f ≡ found_at image o → f.place < length image.elements
  go None e h = absurd (cc h)
  go (Some i) e h =
      let is : f ≡ record { place = i; id = (element_at image i).id } = cc h in
      let in_list = position-Some (answers key at) image.elements i no_element e in
      rw is in_list.0

-- ---- what the set has of its image
pub kinds_stay : (passed : Option ℕ) (image : State) → (staying passed image).kinds ≡ image.kinds
kinds_stay None image = refl
kinds_stay (Some m) image = refl

pub disjoint_stays : (passed : Option ℕ) (image : State) → (staying passed image).disjoint ≡ image.disjoint
disjoint_stays None image = refl
disjoint_stays (Some m) image = refl

-- The set has as many elements as the image, less the gaps.
pub gaps_and_others : (passed : Option ℕ) (image : State) → gaps_before passed image (length image.elements) + length (staying passed image).elements ≡ length image.elements
gaps_and_others None image = omega arith
gaps_and_others (Some m) image =
    let n = length image.elements in
    let both = length-filter_both (λ e. live e m) (is_expired m) (λ e. refl) image.elements in
    let gone = length-filter (is_expired m) image.elements in
    let all : count_by (is_expired m) (take n image.elements) ≡ count_by (is_expired m) image.elements = ap (count_by (is_expired m)) (take_all n image.elements (omega arith)) in
    omega (arith, both, gone, all)

-- ---- the element at a place of the set
pub gaps_few : (passed : Option ℕ) (image : State) (place : ℕ) → gaps_before passed image place ≤ place
gaps_few None image place = omega arith
gaps_few (Some m) image place = let most = count_by-le-length (is_expired m) (take place image.elements) in let long = length-take place image.elements in omega (arith, most, long)

-- Before the end of the image come all elements of the set.
pub all_before : (passed : Option ℕ) (image : State) (i : ℕ) → i < length (staying passed image).elements → i + gaps_before passed image (length image.elements) < length image.elements
all_before passed image i l = let both = gaps_and_others passed image in omega (arith, both, l)

-- If at most i elements come before a place and more before the next one, the element there is the set's element at place i.
pub between_two : (passed : Option ℕ) (image : State) (i p : ℕ) → IsBetween passed image i p (p + 1) → slice_get (staying passed image).elements i ≡ slice_get image.elements p
between_two None image i p b = let same : i ≡ p = omega (arith, b.few, b.more) in ap (slice_get image.elements) same
between_two (Some m) image i p b = go (is_expired m (element_at image p)) refl where
  within : p < length image.elements
  within = omega (arith, b.within)

  one_more : gaps_before (Some m) image (p + 1) ≡ gaps_before (Some m) image p + cond (is_expired m (element_at image p)) 1 0
  one_more = sum_by_more (λ e. cond (is_expired m e) 1 0) image.elements p no_element within

  go : (t : Bool) → is_expired m (element_at image p) ≡ t → slice_get (filter (λ e. live e m) image.elements) i ≡ slice_get image.elements p
  go true e = let more = one_more ∙ ap (λ z. gaps_before (Some m) image p + cond z 1 0) e in absurd (omega (arith, more, b.few, b.more))
  go false e =
      let more = one_more ∙ ap (λ z. gaps_before (Some m) image p + cond z 1 0) e in
      let here : live (element_at image p) m ≡ true = not-false (live (element_at image p) m) e in
      let moves = moved-is image m p (omega (arith, within)) in
      let place : moved (λ x. live x m) image.elements p ≡ i = omega (arith, moves, more, b.few, b.more) in
      let inside : i < length (filter (λ x. live x m) image.elements) = rw (sym place) (moved-within (λ x. live x m) image.elements p no_element within here) in
      slice_get-get_or (filter (λ x. live x m) image.elements) i no_element inside
      ∙ ap (λ z. Some (get_or (filter (λ x. live x m) image.elements) z no_element)) (sym place)
      ∙ ap Some (get_or-kept (λ x. live x m) image.elements p no_element within here)
      ∙ sym (slice_get-get_or image.elements p no_element within)
