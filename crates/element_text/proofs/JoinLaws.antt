-- Items with a separator between them, values and intervals beside their kinds, and what stays if memory runs out.
use Rattle.std.proofs.Common.{◌≡◌, refl, sym, ◌∙◌, ap, subst, ℕ, zero, suc, ◌+◌, ◌<◌, ◌≤◌, List, [], ◌∷◌, ◌++◌, length, take, get_or, flat_map, Bool, true, false, ◌&&◌, Option, Some, None, option_map, is_some, slice_get, inl, inr, true≢false, append_assoc, append-nil, arith, Result, Ok, Err, OnOk, OnErr}
use Rattle.std.specs.Prelude.{nat_lt, IfSome, ◌⊎◌}
use Rattle.std.specs.Borrow.{Bor}
use Rattle.std.specs.List.{join_by, list_all, zip}
use Rattle.std.specs.Option.{option_map_or}
use Rattle.std.proofs.lemmas.Bool.{eqb-true, ltb-true, lt-ltb}
use Rattle.std.proofs.lemmas.Grind.{flat_map-append}
use Rattle.std.proofs.lemmas.List.{take_more, take_all}
use Rattle.std.proofs.lemmas.Option.{slice_get_within, get_or_from_slice_get, slice_get_cases, slice_get-get_or}
use Rattle.std.proofs.lemmas.Slice.Zip.{length-zip}
use Rattle.set_model.specs.declared.kind.Kind.{Kind}
use Rattle.set_model.specs.declared.kind.Kind.TheVariants.{Ipv4}
use Rattle.set_model.specs.declared.kind.Interval.{Interval}
use Rattle.set_model.specs.Key.{is_good, parts_fit, is_value, key_fits}
use Rattle.element_text.specs.Kept.{KeepsBytes}
use Rattle.text_pieces.specs.Appends.{AppendsPart}

-- What is kept.
pub keeps_same : (old new : List ℕ) → new ≡ old → KeepsBytes old new
keeps_same old new e = record { behind = []; appended = e ∙ sym (append-nil old) }

pub keeps_more : (old mid new text : List ℕ) → mid ≡ old ++ text → KeepsBytes mid new → KeepsBytes old new
keeps_more old mid new text e k = record { behind = text ++ k.behind; appended = k.appended ∙ ap (λ m. m ++ k.behind) e ∙ append_assoc old text k.behind }

pub keeps_on : (old mid new : List ℕ) → KeepsBytes old mid → KeepsBytes mid new → KeepsBytes old new
keeps_on old mid new j k = record { behind = j.behind ++ k.behind; appended = k.appended ∙ ap (λ m. m ++ k.behind) j.appended ∙ append_assoc old j.behind k.behind }

pub keeps_part : (old new text : List ℕ) → AppendsPart old new text → KeepsBytes old new
keeps_part old new text p = record { behind = p.part; appended = p.appended }

pub keeps_result : {T E : Type 0} (r : Result T E) (old new text : List ℕ) → OnOk r (new ≡ old ++ text) → OnErr r (AppendsPart old new text) → KeepsBytes old new
keeps_result (Ok v) old new text e p = record { behind = text; appended = e }
keeps_result (Err v) old new text e p = keeps_part old new text p

-- Joined items.
flat_map-more : {X : Type 0} (f : X → List ℕ) (xs : List X) (y : X) → flat_map f (xs ++ y ∷ []) ≡ flat_map f xs ++ f y
flat_map-more f xs y = flat_map-append f xs (y ∷ []) ∙ ap (λ t. flat_map f xs ++ t) (append-nil (f y))

-- the text before the next item: nothing before the first one
abbrev pub before_next : {X : Type 0} → List ℕ → List X → List ℕ
before_next separator [] = []
before_next separator (x ∷ xs) = separator

join-more : {X : Type 0} (f : X → List ℕ) (separator : List ℕ) (xs : List X) (y : X) → join_by f separator (xs ++ y ∷ []) ≡ join_by f separator xs ++ (before_next separator xs ++ f y)
join-more f separator [] y = append-nil (f y)
join-more f separator (x ∷ xs) y =
    ap (λ t. f x ++ t) (flat_map-more (λ z. separator ++ f z) xs y)
    ∙ sym (append_assoc (f x) (flat_map (λ z. separator ++ f z) xs) (separator ++ f y))

-- The items so far are appended, and the text before the next one is known.
pub record Joins {X : Type 0} (f : X → List ℕ) (separator : List ℕ) (xs : List X) (old new next : List ℕ) : Type 0 where
  pub text : new ≡ old ++ join_by f separator xs
  pub ahead : next ≡ before_next separator xs

pub joins_none : {X : Type 0} (f : X → List ℕ) (separator old : List ℕ) → Joins f separator [] old old []
joins_none f separator old = record { text = sym (append-nil old); ahead = refl }

-- the item after them
abbrev ahead_of : {X : Type 0} → List ℕ → List X → X → List ℕ
ahead_of separator xs y = before_next separator (xs ++ y ∷ [])

always_ahead : {X : Type 0} (separator : List ℕ) (xs : List X) (y : X) → separator ≡ ahead_of separator xs y
always_ahead separator [] y = refl
always_ahead separator (x ∷ xs) y = refl

pub joins_one : {X : Type 0} (f : X → List ℕ) (separator : List ℕ) (xs : List X) (y : X) (old mid new next : List ℕ) → Joins f separator xs old mid next → new ≡ mid ++ (next ++ f y)
    → Joins f separator (xs ++ y ∷ []) old new separator
joins_one f separator xs y old mid new next k e = record {
  text =
      e
      ∙ ap (λ m. m ++ (next ++ f y)) k.text
      ∙ append_assoc old (join_by f separator xs) (next ++ f y)
      ∙ ap (λ n. old ++ (join_by f separator xs ++ (n ++ f y))) k.ahead
      ∙ ap (λ t. old ++ t) (sym (join-more f separator xs y));
  ahead = always_ahead separator xs y;
}

-- one item more of a list
pub take-get : {X : Type 0} (xs : List X) (i : ℕ) (x : X) → slice_get xs i ≡ Some x → take (i + 1) xs ≡ take i xs ++ x ∷ []
take-get xs i x h = take_more xs i x (slice_get_within xs i x h) ∙ ap (λ y. take i xs ++ y ∷ []) (get_or_from_slice_get xs i x x h)

pub joins_get : {X : Type 0} (f : X → List ℕ) (separator : List ℕ) (xs : List X) (i : ℕ) (y : X) (old mid new next : List ℕ) → slice_get xs i ≡ Some y → Joins f separator (take i xs) old mid next
    → new ≡ mid ++ (next ++ f y) → Joins f separator (take (i + 1) xs) old new separator
joins_get f separator xs i y old mid new next h k e =
    subst (λ zs. Joins f separator zs old new separator) (sym (take-get xs i y h)) (joins_one f separator (take i xs) y old mid new next k e)

-- the separator and the item, one after the other
pub two_writes : (mid between new next item : List ℕ) → between ≡ mid ++ (next ++ []) → new ≡ between ++ item → new ≡ mid ++ (next ++ item)
two_writes mid between new next item e d = d ∙ ap (λ m. m ++ item) (e ∙ ap (λ t. mid ++ t) (append-nil next)) ∙ append_assoc mid next item

-- the same, if the separator is appended without pieces
pub two_steps : (mid between new next item : List ℕ) → between ≡ mid ++ next → new ≡ between ++ item → new ≡ mid ++ (next ++ item)
two_steps mid between new next item e d = d ∙ ap (λ m. m ++ item) e ∙ append_assoc mid next item

pub joins_keeps : {X : Type 0} (f : X → List ℕ) (separator : List ℕ) (xs : List X) (old mid new next : List ℕ) → Joins f separator xs old mid next → KeepsBytes mid new → KeepsBytes old new
joins_keeps f separator xs old mid new next k j = keeps_more old mid new (join_by f separator xs) k.text j

pub ruleset kept = (keeps_same, keeps_more, keeps_on, joins_keeps)

-- Intervals beside their kinds.
pub zip-get : {X Y : Type 0} (xs : List X) (ys : List Y) (i : ℕ) (x : X) (y : Y) → slice_get xs i ≡ Some x → slice_get ys i ≡ Some y → slice_get (zip xs ys) i ≡ Some (x, y)
zip-get [] ys i x y h k = absurd (cc h)
zip-get (a ∷ xs) [] i x y h k = absurd (cc k)
zip-get (a ∷ xs) (b ∷ ys) zero x y h k = ap (λ (o : Option _). option_map (λ z. (z, b)) o) h ∙ ap (λ (o : Option _). option_map (λ z. (x, z)) o) k
zip-get (a ∷ xs) (b ∷ ys) (suc i) x y h k = zip-get xs ys i x y h k

pub zip-all : {X Y : Type 0} (xs : List X) (ys : List Y) (i : ℕ) → length ys ≤ i → take i (zip xs ys) ≡ zip xs ys
zip-all xs ys i h = take_all i (zip xs ys) (let l = length-zip xs ys in omega (arith, l))

both : (a b : Bool) → (a && b) ≡ true → (a ≡ true) × (b ≡ true)
both true b h = (refl, h)
both false b h = absurd (cc h)

all-get : {X : Type 0} (p : X → Bool) (xs : List X) (i : ℕ) (x : X) → list_all p xs ≡ true → slice_get xs i ≡ Some x → p x ≡ true
all-get p [] i x h k = absurd (cc k)
all-get p (a ∷ xs) zero x h k = subst (λ (o : Option _). option_map_or p o true ≡ true) k ((both (p a) (list_all p xs) h).0)
all-get p (a ∷ xs) (suc i) x h k = all-get p xs i x ((both (p a) (list_all p xs) h).1) k

-- the interval of a field, of an element whose intervals fit, beside its kind
pub field_there : (kinds : List Kind) (parts : List Interval) (i : ℕ) → parts_fit kinds parts ≡ true → i < length parts
    → slice_get (zip kinds parts) i ≡ Some (get_or kinds i Ipv4, get_or parts i (record { low = 0; high = 0 }))
field_there kinds parts i fit h =
    let same : length kinds ≡ length parts = eqb-true _ _ ((both _ _ fit).0) in
    zip-get kinds parts i _ _ (slice_get-get_or kinds i Ipv4 (omega (arith, h, same))) (slice_get-get_or parts i (record { low = 0; high = 0 }) h)

pub field_good : (kinds : List Kind) (parts : List Interval) (i : ℕ) → parts_fit kinds parts ≡ true → i < length parts → is_good (get_or kinds i Ipv4) (get_or parts i (record { low = 0; high = 0 })) ≡ true
field_good kinds parts i fit h = all-get (λ (p : Kind × Interval). is_good p.0 p.1) (zip kinds parts) i _ ((both _ _ fit).1) (field_there kinds parts i fit h)

-- the value of a field, of a key that fits, beside its kind
pub value_there : (kinds : List Kind) (key : List ℕ) (i : ℕ) → key_fits kinds key ≡ true → i < length key → slice_get (zip kinds key) i ≡ Some (get_or kinds i Ipv4, get_or key i 0)
value_there kinds key i fit h =
    let same : length kinds ≡ length key = eqb-true _ _ ((both _ _ fit).0) in
    zip-get kinds key i _ _ (slice_get-get_or kinds i Ipv4 (omega (arith, h, same))) (slice_get-get_or key i 0 h)

pub value_good : (kinds : List Kind) (key : List ℕ) (i : ℕ) → key_fits kinds key ≡ true → i < length key → is_value (get_or kinds i Ipv4) (get_or key i 0) ≡ true
value_good kinds key i fit h = all-get (λ (p : Kind × ℕ). is_value p.0 p.1) (zip kinds key) i _ ((both _ _ fit).1) (value_there kinds key i fit h)

-- The item at a place, as it is found.
pub got-item : (xs : List ℕ) (i : ℕ) (r : Option (Bor ℕ)) → is_some r ≡ nat_lt i (length xs) → IfSome r (λ x. x.now ≡ get_or xs i x.now) → option_map (λ n. n.now) r ≡ slice_get xs i
got-item xs i None e h = go (slice_get_cases xs i).1 where
  go : ((x : ℕ) × (i < length xs) × (slice_get xs i ≡ Some x) × (get_or xs i x ≡ x)) ⊎ ((length xs ≤ i) × (slice_get xs i ≡ None)) → None ≡ slice_get xs i
  go (inl k) = absurd (true≢false (sym (lt-ltb i (length xs) k.1) ∙ sym e))
  go (inr k) = sym k.1
got-item xs i (Some x) e h = ap Some h ∙ sym (slice_get-get_or xs i x.now (ltb-true i (length xs) (sym e)))
