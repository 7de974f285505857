-- Changes at rising moments keep what a listing needs of a set.
use Rattle.std.proofs.Common.{◌≡◌, refl, sym, ◌∙◌, ap, subst, ℕ, zero, suc, ◌+◌, ◌-◌, ◌≤◌, ◌<◌, ◌==◌, ◌^◌, Bool, true, false, not, ◌&&◌, cond, nat_lt, nat_le, if◌then◌else◌, List, [], ◌∷◌, ◌++◌, length, filter, find, position, option_map, Option, Some, None, IfSome, All, get_or, slice_get, slice_set, arith, append-nil, length-append}
use Rattle.std.specs.List.{AllPairs, position_or_len, range_with_len, remove}
use Rattle.std.specs.Option.{option_map_or}
use Rattle.std.proofs.lemmas.Bool.{ltb-true, ltb-false, leb-true, leb-false, lt-ltb, le-leb, eqb-false, and_parts, and_from, or_parts, or_from}
use Rattle.std.proofs.lemmas.List.{length-set}
use Rattle.std.proofs.lemmas.List.Concat.{flat_map-append}
use Rattle.std.proofs.lemmas.List.Elements.{All-nil, All-cons, All-head, All-tail, All-push, All-set}
use Rattle.std.proofs.lemmas.List.FromFn.{length-range_with_len, get_or-range_with_len}
use Rattle.std.proofs.lemmas.List.Kept.{AllPairs-cons, AllPairs-filter}
use Rattle.std.proofs.lemmas.Option.{cond_some}
use Rattle.set_model.specs.declared.kind.Kind.{Kind}
use Rattle.set_model.specs.declared.kind.Interval.{Interval}
use Rattle.set_model.specs.declared.element.Element.{Element}
use Rattle.set_model.specs.declared.element.NewElement.{NewElement}
use Rattle.set_model.specs.declared.script.Verb.{Verb}
use Rattle.set_model.specs.declared.script.Verb.TheVariants as verbs
use Rattle.set_model.specs.Key.{start_key, end_key, contains, parts_hold, parts_share, same_parts}
use Rattle.set_model.specs.Expiry.{live, lives, renewed_element}
use Rattle.set_model.specs.SetState.{State, Addition, empty_set, answers, holds, shares, is_sharing, place, same_at, element_at, twin_place, start_in_the_way, end_in_the_way, sharing_place, sharing_in_the_way, is_full, is_crowded, crowded_field, blocks_of, field_blocks, field_rules, rules_limit, with_element, renewed, add, add_by, exact_place, without_at, purged, cleared}
use Rattle.set_model.specs.SetState.Addition.{New, Already, Renewed, Refused}
use Rattle.set_model.specs.Control.{as_added, as_created, as_deleted, as_destroyed, changed_set}
use Rattle.listing_laws.specs.Relisted.{is_in_the_way, IsGrown}
use Rattle.listing_laws.proofs.RelistedLaws.{pairs-head, pairs-tail}

-- Places of items that pass a test.
module _ {X : Type 0} (p : X → Bool) where
  at_first : (xs : List X) → position_or_len p xs < length xs → (x : X) × (slice_get xs (position_or_len p xs) ≡ Some x) × (p x ≡ true)
  at_first [] lt = absurd (omega (arith, lt))
  at_first (x ∷ xs) lt = by (p x) refl lt (at_first xs) where
    next : (y : X) (n : ℕ) → slice_get xs n ≡ Some y → slice_get (x ∷ xs) (1 + n) ≡ Some y
    next y n g = let one : 1 + n ≡ suc n = omega arith in rw one g

    by : (b : Bool) → p x ≡ b → cond (not b) (1 + position_or_len p xs) 0 < suc (length xs)
        → (position_or_len p xs < length xs → (y : X) × (slice_get xs (position_or_len p xs) ≡ Some y) × (p y ≡ true))
        → (y : X) × (slice_get (x ∷ xs) (cond (not b) (1 + position_or_len p xs) 0) ≡ Some y) × (p y ≡ true)
    by true e h rest = (x, refl, e)
    by false e h rest = let found = rest (omega (arith, h)) in (found.0, next found.0 (position_or_len p xs) found.1, found.2)

  pub at_position : (xs : List X) (i : ℕ) → position p xs ≡ Some i → (x : X) × (slice_get xs i ≡ Some x) × (p x ≡ true)
  at_position xs i h =
      let k = cond_some (nat_lt (position_or_len p xs) (length xs)) (position_or_len p xs) i h in
      let found = at_first xs (ltb-true (position_or_len p xs) (length xs) k.0) in
      (found.0, ap (slice_get xs) (sym k.1) ∙ found.1, found.2)

  none_first : (xs : List X) → length xs ≤ position_or_len p xs → All (λ x. p x ≡ false) xs
  none_first [] le = All-nil (λ x. p x ≡ false)
  none_first (x ∷ xs) le = by (p x) refl le (none_first xs) where
    by : (b : Bool) → p x ≡ b → suc (length xs) ≤ cond (not b) (1 + position_or_len p xs) 0 → (length xs ≤ position_or_len p xs → All (λ y. p y ≡ false) xs) → All (λ y. p y ≡ false) (x ∷ xs)
    by true e h rest = absurd (omega (arith, h))
    by false e h rest = All-cons (λ y. p y ≡ false) x xs e (rest (omega (arith, h)))

  pub none_passes : (xs : List X) → position p xs ≡ None → All (λ x. p x ≡ false) xs
  none_passes xs h = none_first xs (by (nat_lt (position_or_len p xs) (length xs)) refl h) where
    by : (b : Bool) → nat_lt (position_or_len p xs) (length xs) ≡ b → cond b (Some (position_or_len p xs)) None ≡ None → length xs ≤ position_or_len p xs
    by true e h = absurd (cc h)
    by false e h = ltb-false (position_or_len p xs) (length xs) e

  pub none_found : (xs : List X) → find p xs ≡ None → All (λ x. p x ≡ false) xs
  none_found [] h = All-nil (λ x. p x ≡ false)
  none_found (x ∷ xs) h = by (p x) refl h (none_found xs) where
    by : (b : Bool) → p x ≡ b → cond b (Some x) (find p xs) ≡ None → (find p xs ≡ None → All (λ y. p y ≡ false) xs) → All (λ y. p y ≡ false) (x ∷ xs)
    by true e h rest = absurd (cc h)
    by false e h rest = All-cons (λ y. p y ≡ false) x xs e (rest h)

-- Lists less an item, and lists with an item of a place written anew.
module _ {X : Type 0} where
  pub item_of : (P : X → Type 0) (xs : List X) (i : ℕ) (x : X) → All P xs → slice_get xs i ≡ Some x → P x
  item_of P [] i x h e = absurd (cc e)
  item_of P (y ∷ ys) zero x h e = let same : y ≡ x = cc e in subst P same (All-head P y ys h)
  item_of P (y ∷ ys) (suc i) x h e = item_of P ys i x (All-tail P y ys h) e

  pub All-without : (P : X → Type 0) (xs : List X) (i : ℕ) → All P xs → All P (remove xs i)
  All-without P [] zero h = h
  All-without P [] (suc i) h = h
  All-without P (x ∷ xs) zero h = All-tail P x xs h
  All-without P (x ∷ xs) (suc i) h = All-cons P x (remove xs i) (All-head P x xs h) (All-without P xs i (All-tail P x xs h))

  pub pairs-without : (R : X → X → Type 0) (xs : List X) (i : ℕ) → AllPairs R xs → AllPairs R (remove xs i)
  pairs-without R [] zero h = h
  pairs-without R [] (suc i) h = h
  pairs-without R (x ∷ xs) zero h = pairs-tail R x xs h
  pairs-without R (x ∷ xs) (suc i) h = AllPairs-cons R x (remove xs i) (All-without (R x) xs i (pairs-head R x xs h)) (pairs-without R xs i (pairs-tail R x xs h))

  pub pairs-push : (R : X → X → Type 0) (xs : List X) (y : X) → AllPairs R xs → All (λ x. R x y) xs → AllPairs R (xs ++ y ∷ [])
  pairs-push R [] y h k = AllPairs-cons R y [] (All-nil (R y)) h
  pairs-push R (x ∷ xs) y h k =
      AllPairs-cons R x (xs ++ y ∷ []) (All-push (R x) xs y (pairs-head R x xs h) (All-head (λ z. R z y) x xs k)) (pairs-push R xs y (pairs-tail R x xs h) (All-tail (λ z. R z y) x xs k))

  pub pairs-weaker : (R S : X → X → Type 0) → ((x y : X) → R x y → S x y) → (xs : List X) → AllPairs R xs → AllPairs S xs
  pairs-weaker R S weaker xs h i j d lt within = weaker _ _ (h i j d lt within)

-- The rules of fewer elements are no more.
module _ (kinds : List Kind) (f : ℕ) where
  abbrev count : List Element → ℕ
  count es = length (field_rules kinds f es)

  count-cons : (e : Element) (es : List Element) → count (e ∷ es) ≡ length (field_blocks kinds f e.parts) + count es
  count-cons e es = length-append (field_blocks kinds f e.parts) (field_rules kinds f es)

  count-filter : (p : Element → Bool) (es : List Element) → count (filter p es) ≤ count es
  count-filter p [] = omega arith
  count-filter p (e ∷ es) = by (p e) (count-filter p es) where
    by : (b : Bool) → count (filter p es) ≤ count es → count (cond b (e ∷ filter p es) (filter p es)) ≤ count (e ∷ es)
    by true h = let a = count-cons e (filter p es) in let b = count-cons e es in omega (arith, a, b, h)
    by false h = let b = count-cons e es in omega (arith, b, h)

  count-without : (es : List Element) (i : ℕ) → count (remove es i) ≤ count es
  count-without [] zero = omega arith
  count-without [] (suc i) = omega arith
  count-without (e ∷ es) zero = let b = count-cons e es in omega (arith, b)
  count-without (e ∷ es) (suc i) = let a = count-cons e (remove es i) in let b = count-cons e es in let rest = count-without es i in omega (arith, a, b, rest)

  count-set : (es : List Element) (i : ℕ) (e : Element) (expiry : Option ℕ) → slice_get es i ≡ Some e → count (slice_set es i (record e { expiry = expiry })) ≡ count es
  count-set [] i e expiry h = absurd (cc h)
  count-set (x ∷ es) zero e expiry h = let same : x ≡ e = cc h in ap (λ (y : Element). count (y ∷ es)) (sym same)
  count-set (x ∷ es) (suc i) e expiry h = count-cons x (slice_set es i (record e { expiry = expiry })) ∙ ap (λ n. length (field_blocks kinds f x.parts) + n) (count-set es i e expiry h) ∙ sym (count-cons x es)

fewer-filter : (p : Element → Bool) (es : List Element) → length (filter p es) ≤ length es
fewer-filter p [] = omega arith
fewer-filter p (e ∷ es) = by (p e) (fewer-filter p es) where
  by : (b : Bool) → length (filter p es) ≤ length es → length (cond b (e ∷ filter p es) (filter p es)) ≤ length (e ∷ es)
  by true h = omega (arith, h)
  by false h = omega (arith, h)

fewer-without : (es : List Element) (i : ℕ) → length (remove es i) ≤ length es
fewer-without [] zero = omega arith
fewer-without [] (suc i) = omega arith
fewer-without (e ∷ es) zero = omega arith
fewer-without (e ∷ es) (suc i) = let rest = fewer-without es i in omega (arith, rest)

within-size : (size : Option ℕ) (n m : ℕ) → m ≤ n → IfSome size (λ k. n ≤ k) → IfSome size (λ k. m ≤ k)
within-size None n m le h = tt
within-size (Some k) n m le h = omega (arith, le, h)

-- what holds the start key of good intervals shares a key with them
low-shares : (a b c d : ℕ) → (nat_le a c && nat_le c b) ≡ true → c ≤ d → (nat_le a d && nat_le c b) ≡ true
low-shares a b c d h le = let k = and_parts (nat_le a c) (nat_le c b) h in and_from _ _ (le-leb a d (let l = leb-true a c k.0 in omega (arith, l, le))) k.1

start-shares : (xs parts : List Interval) → All (λ p. p.low ≤ p.high) parts → parts_hold xs (start_key parts) ≡ true → parts_share xs parts ≡ true
start-shares [] parts good h = refl
start-shares (x ∷ xs) [] good h = refl
start-shares (x ∷ xs) (p ∷ parts) good h =
    let k = and_parts (contains x p.low) (parts_hold xs (start_key parts)) h in
    and_from _ _ (low-shares x.low x.high p.low p.high k.0 (All-head (λ p. p.low ≤ p.high) p parts good)) (start-shares xs parts (All-tail (λ p. p.low ≤ p.high) p parts good) k.1)

if_some : (b : Bool) (x y : ℕ) → (if b then Some x else None) ≡ Some y → (b ≡ true) × (x ≡ y)
if_some true x y h = (refl, cc h)
if_some false x y h = absurd (cc h)

past : (ks : List Kind) (i : ℕ) → length ks ≤ i → slice_get ks i ≡ None
past [] i le = refl
past (y ∷ ks) zero le = absurd (omega (arith, le))
past (y ∷ ks) (suc i) le = past ks i (omega (arith, le))

-- a later moment leaves less alive
outlives : (now later : ℕ) (x : Option ℕ) → now ≤ later → lives x later ≡ true → lives x now ≡ true
outlives now later None le h = refl
outlives now later (Some t) le h = let lt = ltb-true later t h in lt-ltb now t (omega (arith, le, lt))

-- an element that is live at a moment isn't in the way of a later one
abbrev FreeAt : Bool → ℕ → Element → Element → Type 0
FreeAt disjoint now e f = live e now ≡ true → is_in_the_way disjoint e f.parts ≡ false

pub later_grown : (now later : ℕ) (s : State) → now ≤ later → IsGrown now s → IsGrown later s
later_grown now later s le k = record {
  free = pairs-weaker (FreeAt s.disjoint now) (FreeAt s.disjoint later) (λ e f h l. h (outlives now later e.expiry le l)) s.elements k.free;
  sized = k.sized;
  numbered = k.numbered;
  short = k.short;
}

pub empty_grown : (now : ℕ) (kinds : List Kind) (size : Option ℕ) (disjoint : Bool) → IsGrown now (empty_set kinds size disjoint)
empty_grown now kinds size disjoint = record {
  free = λ i j d lt within. absurd (omega (arith, within));
  sized = by size;
  numbered = (omega arith, omega arith);
  short = λ f. omega arith;
} where
  by : (size : Option ℕ) → IfSome size (λ k. 0 ≤ k)
  by None = tt
  by (Some k) = omega arith

module _ (now : ℕ) (s : State) (k : IsGrown now s) where
  abbrev Free : Element → Element → Type 0
  Free e f = live e now ≡ true → is_in_the_way s.disjoint e f.parts ≡ false

  pub purged_grown : (at : ℕ) → IsGrown now (purged s at)
  purged_grown at = record {
    free = AllPairs-filter Free (λ e. live e at) s.elements k.free;
    sized = within-size s.size (length s.elements) _ (fewer-filter (λ e. live e at) s.elements) k.sized;
    numbered = (let n = k.numbered.0 in let f = fewer-filter (λ e. live e at) s.elements in omega (arith, n, f), k.numbered.1);
    short = λ f. let n = k.short f in let c = count-filter s.kinds f (λ e. live e at) s.elements in omega (arith, n, c);
  }

  pub without_grown : (i : ℕ) → IsGrown now (without_at s i)
  without_grown i = record {
    free = pairs-without Free s.elements i k.free;
    sized = within-size s.size (length s.elements) _ (fewer-without s.elements i) k.sized;
    numbered = (let n = k.numbered.0 in let f = fewer-without s.elements i in omega (arith, n, f), k.numbered.1);
    short = λ f. let n = k.short f in let c = count-without s.kinds f s.elements i in omega (arith, n, c);
  }

  pub cleared_grown : IsGrown now (cleared s)
  cleared_grown = record {
    free = λ i j d lt within. absurd (omega (arith, within));
    sized = within-size s.size (length s.elements) 0 (omega arith) k.sized;
    numbered = (omega arith, k.numbered.1);
    short = λ f. omega arith;
  }

  -- another expiry of a live element
  set-free : (es : List Element) (i : ℕ) (e : Element) (expiry : Option ℕ) → slice_get es i ≡ Some e → live e now ≡ true → AllPairs Free es → AllPairs Free (slice_set es i (record e { expiry = expiry }))
  set-free [] i e expiry at alive h = absurd (cc at)
  set-free (x ∷ es) zero e expiry at alive h =
      let same : x ≡ e = cc at in
      AllPairs-cons Free (record e { expiry = expiry }) es (λ j d lt l. subst (λ (y : Element). is_in_the_way s.disjoint y (get_or es j d).parts ≡ false) same (pairs-head Free x es h j d lt (ap (λ (y : Element). live y now) same ∙ alive))) (pairs-tail Free x es h)
  set-free (x ∷ es) (suc i) e expiry at alive h =
      AllPairs-cons Free x (slice_set es i (record e { expiry = expiry })) (All-set (Free x) es i (record e { expiry = expiry }) (item_of (Free x) es i e (pairs-head Free x es h) at) (pairs-head Free x es h))
      (set-free es i e expiry at alive (pairs-tail Free x es h))

  pub renewed_grown : (i : ℕ) (expiry : Option ℕ) (e : Element) → slice_get s.elements i ≡ Some e → live e now ≡ true → IsGrown now (renewed s i expiry)
  renewed_grown i expiry e at alive =
      let long = length-set s.elements i (record e { expiry = expiry }) in
      subst (λ es. IsGrown now (record s { elements = es })) (ap (renewed_element s.elements i expiry) (sym at)) (record {
        free = set-free s.elements i e expiry at alive k.free;
        sized = within-size s.size (length s.elements) _ (omega (arith, long)) k.sized;
        numbered = (let n = k.numbered.0 in omega (arith, n, long), k.numbered.1);
        short = λ f. let n = k.short f in let c = count-set s.kinds f s.elements i e expiry at in omega (arith, n, c);
      })

  module _ (e : NewElement) (good : All (λ p. p.low ≤ p.high) e.parts) where
    abbrev made : Element
    made = record { id = s.next; parts = e.parts; expiry = e.expiry; comment = e.comment }

    after-live : (x : Element) (t : Bool) → live x now ≡ true → (live x now && t) ≡ false → t ≡ false
    after-live x t l h = ap (λ b. b && t) (sym l) ∙ h

    not-shared : (x : Element) → shares x e.parts ≡ false → holds x (start_key e.parts) ≡ false
    not-shared x h = by (holds x (start_key e.parts)) refl where
      by : (b : Bool) → holds x (start_key e.parts) ≡ b → b ≡ false
      by false q = refl
      by true q = absurd (cc (start-shares x.parts e.parts good q, h))

    unhidden : start_in_the_way s e.parts now ≡ None → end_in_the_way s e.parts now ≡ None → sharing_in_the_way s e.parts now ≡ None → All (λ x. Free x made) s.elements
    unhidden a b c = by s.disjoint refl a b c where
      by : (d : Bool) → s.disjoint ≡ d → (if d then None else place s (start_key e.parts) now) ≡ None → (if d then None else place s (end_key e.parts) now) ≡ None → (if d then sharing_place s e.parts now else None) ≡ None
          → All (λ x. Free x made) s.elements
      by true q a b c = λ i d lt l. let x = get_or s.elements i d in
          let n = after-live x (shares x e.parts) l (none_passes (is_sharing e.parts now) s.elements c i d lt) in
          or_from _ _ (not-shared x n) (ap (λ t. if t then shares x e.parts else holds x (end_key e.parts)) q ∙ n)
      by false q a b c = λ i d lt l. let x = get_or s.elements i d in
          let n = after-live x (holds x (start_key e.parts)) l (none_passes (answers (start_key e.parts) now) s.elements a i d lt) in
          let m = after-live x (holds x (end_key e.parts)) l (none_passes (answers (end_key e.parts) now) s.elements b i d lt) in
          or_from _ _ n (ap (λ t. if t then shares x e.parts else holds x (end_key e.parts)) q ∙ m)

    new-sized : is_full s ≡ false → IfSome s.size (λ n. length (s.elements ++ made ∷ []) ≤ n)
    new-sized full = by s.size (or_parts (option_map_or (λ size. nat_le size (length s.elements)) s.size false) (s.next == 2 ^ 64 - 1) full).0 where
      by : (o : Option ℕ) → option_map_or (λ size. nat_le size (length s.elements)) o false ≡ false → IfSome o (λ n. length (s.elements ++ made ∷ []) ≤ n)
      by None h = tt
      by (Some n) h = let less = leb-false n (length s.elements) h in let l = length-append s.elements (made ∷ []) in omega (arith, less, l)

    new-numbered : is_full s ≡ false → s.next + 1 < 2 ^ 64
    new-numbered full = by (nat_lt (s.next + 1) (2 ^ 64)) refl where
      by : (b : Bool) → nat_lt (s.next + 1) (2 ^ 64) ≡ b → s.next + 1 < 2 ^ 64
      by true h = ltb-true (s.next + 1) (2 ^ 64) h
      by false h = let le = ltb-false (s.next + 1) (2 ^ 64) h in let n = k.numbered.1 in absurd (eqb-false s.next (2 ^ 64 - 1) (or_parts (option_map_or (λ size. nat_le size (length s.elements)) s.size false) (s.next == 2 ^ 64 - 1) full).1 (omega (arith, le, n)))

    new-short : crowded_field s e.parts ≡ None → (f : ℕ) → length (field_rules s.kinds f (s.elements ++ made ∷ [])) ≤ rules_limit
    new-short room f =
        let split = ap length (flat_map-append (λ x. field_blocks s.kinds f x.parts) s.elements (made ∷ [])) ∙ length-append (field_rules s.kinds f s.elements) (field_blocks s.kinds f e.parts ++ []) in
        let last = ap length (append-nil (field_blocks s.kinds f e.parts)) in
        let fits = by (nat_lt f (length s.kinds)) refl in
        omega (arith, split, last, fits) where
          by : (b : Bool) → nat_lt f (length s.kinds) ≡ b → length (field_rules s.kinds f s.elements) + length (field_blocks s.kinds f e.parts) ≤ rules_limit
          by true h =
              let lt = ltb-true f (length s.kinds) h in
              let at = none_found (is_crowded s e.parts) (range_with_len 0 (length s.kinds)) room f 0 (let l = length-range_with_len 0 (length s.kinds) in omega (arith, l, lt)) in
              let is : get_or (range_with_len 0 (length s.kinds)) f 0 ≡ f = get_or-range_with_len 0 (length s.kinds) f 0 lt ∙ omega arith in
              ltb-false rules_limit _ (ap (is_crowded s e.parts) (sym is) ∙ at)
          by false h =
              let none : length (field_blocks s.kinds f e.parts) ≡ 0 = ap (λ o. length (blocks_of o (slice_get e.parts f))) (past s.kinds f (ltb-false f (length s.kinds) h)) in
              let n = k.short f in omega (arith, none, n)

    new_grown : start_in_the_way s e.parts now ≡ None → end_in_the_way s e.parts now ≡ None → sharing_in_the_way s e.parts now ≡ None → is_full s ≡ false → crowded_field s e.parts ≡ None
        → IsGrown now (with_element s e)
    new_grown a b c full room = record {
      free = pairs-push Free s.elements made k.free (unhidden a b c);
      sized = new-sized full;
      numbered = (let l = length-append s.elements (made ∷ []) in let n = k.numbered.0 in omega (arith, l, n), new-numbered full);
      short = new-short room;
    }

    twin_alive : (i : ℕ) → twin_place s e.parts now ≡ Some i → (x : Element) × (slice_get s.elements i ≡ Some x) × (live x now ≡ true)
    twin_alive i h = by (place s (start_key e.parts) now) refl h where
      by : (o : Option ℕ) → place s (start_key e.parts) now ≡ o → same_at s e.parts o ≡ Some i → (x : Element) × (slice_get s.elements i ≡ Some x) × (live x now ≡ true)
      by None p q = absurd (cc q)
      by (Some j) p q =
          let same = if_some (same_parts (element_at s j).parts e.parts) j i q in
          let found = at_position (answers (start_key e.parts) now) s.elements j p in
          (found.0, ap (slice_get s.elements) (sym same.1) ∙ found.1, (and_parts (live found.0 now) (holds found.0 (start_key e.parts)) found.2).0)

    by-case : (twin expiry a b c : Option ℕ) (full : Bool) (crowded : Option ℕ) → twin_place s e.parts now ≡ twin → start_in_the_way s e.parts now ≡ a → end_in_the_way s e.parts now ≡ b
        → sharing_in_the_way s e.parts now ≡ c → is_full s ≡ full → crowded_field s e.parts ≡ crowded → IsGrown now (add_by s e twin expiry a b c full crowded).1
    by-case (Some i) None a b c full crowded t p q r u v = k
    by-case (Some i) (Some m) a b c full crowded t p q r u v = let x = twin_alive i t in renewed_grown i (Some m) x.0 x.1 x.2
    by-case None expiry (Some i) b c full crowded t p q r u v = k
    by-case None expiry None (Some i) c full crowded t p q r u v = k
    by-case None expiry None None (Some i) full crowded t p q r u v = k
    by-case None expiry None None None true crowded t p q r u v = k
    by-case None expiry None None None false (Some f) t p q r u v = k
    by-case None expiry None None None false None t p q r u v = new_grown p q r u v

    pub added_grown : IsGrown now (add s e now).1
    added_grown = by-case (twin_place s e.parts now) e.expiry (start_in_the_way s e.parts now) (end_in_the_way s e.parts now) (sharing_in_the_way s e.parts now) (is_full s) (crowded_field s e.parts) refl refl refl refl refl refl

    by-addition : (r : Addition × State) → IsGrown now r.1 → IsGrown now (as_added r).1
    by-addition (New id, t) h = h
    by-addition (Already id, t) h = h
    by-addition (Renewed id, t) h = h
    by-addition (Refused why, t) h = h

    by-creation : (r : Addition × State) → IsGrown now r.1 → IsGrown now (as_created s r).1
    by-creation (New id, t) h = h
    by-creation (Already id, t) h = k
    by-creation (Renewed id, t) h = k
    by-creation (Refused why, t) h = k

  by-removal : (parts : List Interval) (o : Option ℕ) → (P : State → Type 0) → P s → ((i : ℕ) → P (without_at s i)) → P (as_deleted s (option_map (λ i. ((element_at s i).id, without_at s i)) o)).1 × P (as_destroyed s (option_map (λ i. ((element_at s i).id, without_at s i)) o)).1
  by-removal parts None P h w = (h, h)
  by-removal parts (Some i) P h w = (w i, w i)

  -- What a change of a set keeps.
  pub changed_grown : (verb : Verb) (e : NewElement) → All (λ p. p.low ≤ p.high) e.parts → IsGrown now (changed_set verb s e now).1
  changed_grown verbs.Add e good = by-addition e good (add s e now) (added_grown e good)
  changed_grown verbs.Create e good = by-creation e good (add s e now) (added_grown e good)
  changed_grown verbs.Delete e good = (by-removal e.parts (exact_place s e.parts now) (IsGrown now) k without_grown).0
  changed_grown verbs.Destroy e good = (by-removal e.parts (exact_place s e.parts now) (IsGrown now) k without_grown).1
