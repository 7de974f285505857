-- The order of keys, and what a lookup says of the set's keys.
use Rattle.std.proofs.Common.{◌≡◌, refl, sym, ◌∙◌, ap, subst, ℕ, Bool, true, false, ◌&&◌, ◌||◌, ◌==◌, nat_le, nat_lt, List, [], ◌∷◌, length, get_or, map, filter, Option, None, Some, arith, cond}
use Rattle.std.specs.Prelude.{All, slice_get}
use Rattle.std.specs.List.{list_any}
use Rattle.std.specs.declared.cmp.Ordering.{Ordering}
use Rattle.std.specs.declared.cmp.Ordering.TheVariants.{Less, Equal, Greater}
use Rattle.std.specs.Ordering.{is_le, is_gt, nat_cmp, ordering_then, ordering_reverse}
use Rattle.std.specs.Cmp.Lexicographic.{slice_cmp}
use Rattle.std.proofs.lemmas.Cmp.{upto, nat_list_cmp_total}
use Rattle.std.proofs.lemmas.Bool.{and_parts, and_from, false_from_ne_true}
use Rattle.std.proofs.lemmas.Bool.Decides.{nat_tests}
use Rattle.std.proofs.lemmas.List.Folds.{list_any_at, list_any_none}
use Rattle.std.proofs.lemmas.List.Elements.{All-from_get_or, All-get_or}
use Rattle.std.proofs.lemmas.Option.{get_or_from_slice_get, slice_get_within}
use Rattle.set_model.specs.declared.packet.Found.{Found}
use Rattle.set_model.specs.declared.kind.Kind.{Kind}
use Rattle.pipapo_image.specs.Image.Found.{found, found_at}
use Rattle.set_compare.proofs.CutLaws.{fit-long}
use Rattle.std.proofs.lemmas.List.Quantifiers.{position-Some}
use Rattle.set_tables.proofs.RowLaws.{position-none}
use Rattle.set_model.specs.declared.kind.Interval.{Interval}
use Rattle.set_model.specs.declared.element.Element.{Element}
use Rattle.set_model.specs.Key.{contains, parts_hold, start_key, parts_fit}
use Rattle.set_model.specs.Expiry.{live}
use Rattle.set_model.specs.SetState.{State, answers, holds, place, element_at}
use Rattle.expiry_scan.proofs.PlaceLaws.{no_element}
use Rattle.set_compare.specs.Missing.{finds, is_up_to}
use Rattle.set_compare.specs.Search.{in_some, live_regions}

le-gt : (o : Ordering) → is_le o ≡ true → is_gt o ≡ false
le-gt Less h = refl
le-gt Equal h = refl
le-gt Greater h = absurd (cc h)

gt-le : (o : Ordering) → is_gt o ≡ false → is_le o ≡ true
gt-le Less h = refl
gt-le Equal h = refl
gt-le Greater h = absurd (cc h)

reverse-le : (o : Ordering) → is_le o ≡ false → is_le (ordering_reverse o) ≡ true
reverse-le Less h = absurd (cc h)
reverse-le Equal h = absurd (cc h)
reverse-le Greater h = refl

pub up-to-trans : (a b c : List ℕ) → is_up_to a b ≡ true → is_up_to b c ≡ true → is_up_to a c ≡ true
up-to-trans a b c h k =
    gt-le (slice_cmp nat_cmp a c) (upto nat_list_cmp_total a b c (le-gt (slice_cmp nat_cmp a b) h) (le-gt (slice_cmp nat_cmp b c) k))

pub up-to-total : (a b : List ℕ) → is_up_to a b ≡ false → is_up_to b a ≡ true
up-to-total a b h = ap is_le (nat_list_cmp_total.antisymm b a) ∙ reverse-le (slice_cmp nat_cmp a b) h

then-le : (x y : ℕ) (o : Ordering) → nat_le x y ≡ true → is_le o ≡ true → is_le (ordering_then (nat_cmp x y) o) ≡ true
then-le x y o h k = go (nat_lt x y) refl where
  same : (t : Bool) → nat_lt x y ≡ false → (x == y) ≡ t → is_le (ordering_then (cond t Equal Greater) o) ≡ true
  same true f e = k
  same false f e = absurd (grind (arith, nat_tests))

  go : (t : Bool) → nat_lt x y ≡ t → is_le (ordering_then (cond t Less (cond (x == y) Equal Greater)) o) ≡ true
  go true e = refl
  go false e = same (x == y) e refl

-- A region's least key comes no later than any of its keys.
pub start-first : (region : List Interval) (key : List ℕ) → length region ≡ length key → parts_hold region key ≡ true → is_up_to (start_key region) key ≡ true
start-first [] [] n h = refl
start-first [] (v ∷ vs) n h = absurd (omega arith)
start-first (p ∷ ps) [] n h = absurd (omega arith)
start-first (p ∷ ps) (v ∷ vs) n h =
    let g = and_parts (contains p v) (parts_hold ps vs) h in
    let t = and_parts (nat_le p.low v) (nat_le v p.high) g.0 in
    then-le p.low v (slice_cmp nat_cmp (start_key ps) vs) t.0 (start-first ps vs (omega arith) g.1)

-- No live element holds the key.
pub finds-not : (s : State) (key : List ℕ) (now : ℕ) → None ≡ place s key now → finds s now key ≡ false
finds-not s key now h =
    let P : Element → Type 0 = λ e. answers key now e ≡ false in
    list_any_none (answers key now) s.elements (All-from_get_or P s.elements no_element (λ k l. position-none (answers key now) s.elements k no_element (sym h) l))

pub finds-some : (s : State) (key : List ℕ) (now i : ℕ) → Some i ≡ place s key now → finds s now key ≡ true
finds-some s key now i h =
    let found = position-Some (answers key now) s.elements i no_element (sym h) in
    list_any_at (answers key now) s.elements i no_element found.0 found.1

-- The element that a lookup finds holds the key. It holds no key that the set doesn't find.
pub record IsHolder (s : State) (now : ℕ) (key : List ℕ) (element : List Interval) : Type 0 where
  pub holds : parts_hold element key ≡ true
  pub others : (other : List ℕ) → finds s now other ≡ false → parts_hold element other ≡ false

pub holder : (s : State) (key : List ℕ) (now i : ℕ) → Some i ≡ place s key now → IsHolder s now key (element_at s i).parts
holder s key now i h =
    let found = position-Some (answers key now) s.elements i no_element (sym h) in
    let e = element_at s i in
    let a = and_parts (live e now) (holds e key) found.1 in
    record {
      holds = a.1;
      others = λ other un. false_from_ne_true (holds e other)
          (λ t. cc (list_any_at (answers other now) s.elements i no_element found.0 (and_from (live e now) (holds e other) a.0 t), un));
    }

-- The intervals of the live elements hold the keys that the set finds.
pub live-held : (es : List Element) (now : ℕ) (key : List ℕ) → in_some (live_regions es now) key ≡ list_any (answers key now) es
live-held [] now key = refl
live-held (e ∷ es) now key = go (live e now) refl (live-held es now key) where
  go : (t : Bool) → live e now ≡ t → in_some (live_regions es now) key ≡ list_any (answers key now) es
      → in_some (map (λ e. e.parts) (cond t (e ∷ filter (λ e. live e now) es) (filter (λ e. live e now) es))) key ≡ ((t && holds e key) || list_any (answers key now) es)
  go true h ih = ap (λ z. holds e key || z) ih
  go false h ih = ih

-- What a lookup returns, as the element at the place that it names.
placed : Option Found → ℕ
placed None = 0
placed (Some f) = f.place

pub found-holder : (s : State) (key start : List ℕ) (now : ℕ) (o : Option Found) (f : Found) (es : List Element) (e : Element) (parts : List Interval) → o ≡ found s key now → o ≡ Some f → es ≡ s.elements
    → slice_get es f.place ≡ Some e → parts ≡ e.parts → key ≡ start → IsHolder s now start parts
unfolding placed
found-holder s key start now o f es e parts is some same at own k = go (place s key now) refl where
  go : (p : Option ℕ) → p ≡ place s key now → IsHolder s now start parts
  go None h = absurd (cc (ap (found_at s) h))
  go (Some i) h =
      let there : Some f ≡ found_at s (Some i) = sym some ∙ is ∙ sym (ap (found_at s) h) in
      let j : f.place ≡ i = ap placed there in
      let here : get_or s.elements i no_element ≡ e = ap (λ xs. get_or xs i no_element) (sym same) ∙ ap (λ n. get_or es n no_element) (sym j) ∙ get_or_from_slice_get es f.place e no_element at in
      let one : (element_at s i).parts ≡ parts = ap (λ x. x.parts) here ∙ sym own in
      let H : List Interval → Type 0 = λ z. IsHolder s now start z in
      let G : List ℕ → Type 0 = λ z. IsHolder s now z (element_at s i).parts in
      subst H one (subst G k (holder s key now i h))

-- A lookup that answers none: no live element holds the key.
pub found-nowhere : (s : State) (key start : List ℕ) (now : ℕ) (o : Option Found) → o ≡ found s key now → o ≡ None → key ≡ start → None ≡ place s start now
found-nowhere s key start now o is none k = let P : List ℕ → Type 0 = λ z. None ≡ place s z now in subst P k (go (place s key now) refl) where
  go : (p : Option ℕ) → p ≡ place s key now → None ≡ place s key now
  go None h = h
  go (Some i) h = absurd (cc (sym none ∙ is ∙ sym (ap (found_at s) h)))

pub found-not : (s : State) (key : List ℕ) (now : ℕ) (o : Option Found) → o ≡ found s key now → o ≡ None → finds s now key ≡ false
found-not s key now o is none = finds-not s key now (found-nowhere s key key now o is none refl)

-- The intervals of the element at a place are one for each kind.
pub element-long : (kinds : List Kind) (es others : List Element) (i : ℕ) (e : Element) (parts : List Interval) → All (λ e. parts_fit kinds e.parts ≡ true) es → others ≡ es → slice_get others i ≡ Some e → parts ≡ e.parts
    → length kinds ≡ length parts
element-long kinds es others i e parts fit same at own =
    let there : slice_get es i ≡ Some e = ap (λ xs. slice_get xs i) (sym same) ∙ at in
    let P : Element → Type 0 = λ e. parts_fit kinds e.parts ≡ true in
    let one : parts_fit kinds e.parts ≡ true = subst P (get_or_from_slice_get es i e no_element there) (All-get_or P es i no_element (slice_get_within es i e there) fit) in
    fit-long kinds e.parts one ∙ ap length (sym own)
