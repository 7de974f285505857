-- What a walk over a list has found so far, and one item more.
use Rattle.std.proofs.Common.{◌≡◌, refl, sym, ◌∙◌, ap, subst, ℕ, zero, suc, ◌+◌, ◌<◌, ◌≤◌, ◌&&◌, Bool, true, false, not, if◌then◌else◌, max, List, [], ◌∷◌, ◌++◌, length, take, drop, filter, flat_map, get_or, All, Option, Some, None, slice_get, is_some, option_map, inl, inr, true≢false, append-nil, append_assoc, codes, arith}
use Rattle.std.specs.Prelude.{nat_le, nat_lt, IfSome, ◌⊎◌}
use Rattle.std.specs.Borrow.{Bor}
use Rattle.std.specs.List.{fold, find, join_by}
use Rattle.std.specs.Option.{option_or}
use Rattle.std.proofs.lemmas.List.{take_more, take_all, length_push, length-append, take-append-le}
use Rattle.std.proofs.lemmas.List.Elements.{filter-append}
use Rattle.std.proofs.lemmas.List.Folds.{find-append}
use Rattle.std.proofs.lemmas.List.Sums.{fold-append}
use Rattle.std.proofs.lemmas.Grind.{flat_map-append}
use Rattle.std.proofs.lemmas.Option.{slice_get_within, get_or_from_slice_get, slice_get_cases, slice_get-get_or}
use Rattle.std.proofs.lemmas.Bool.{ltb-true, lt-ltb, leb-true, leb-false, le-leb, lt-leb}
use Rattle.element_text.proofs.JoinLaws.{Joins, joins_one}

module _ {X : Type 0} (xs : List X) (i : ℕ) (x : X) (at : slice_get xs i ≡ Some x) where
  pub take-get : take (i + 1) xs ≡ take i xs ++ x ∷ []
  take-get = take_more xs i x (slice_get_within xs i x at) ∙ ap (λ (y : X). take i xs ++ y ∷ []) (get_or_from_slice_get xs i x x at)

  pub filter-get : (p : X → Bool) → filter p (take (i + 1) xs) ≡ filter p (take i xs) ++ filter p (x ∷ [])
  filter-get p = ap (filter p) take-get ∙ filter-append p (take i xs) (x ∷ [])

  -- How many items pass a test.
  pub counted-next : (p : X → Bool) (count new : ℕ) (is : Bool) → is ≡ p x → new ≡ (if is then count + 1 else count) → count ≡ length (filter p (take i xs)) → new ≡ length (filter p (take (i + 1) xs))
  counted-next p count new is same step so_far = step ∙ go is (sym same) ∙ ap (λ (z : List X). length z) (sym (filter-get p)) where
    go : (b : Bool) → p x ≡ b → (if b then count + 1 else count) ≡ length (filter p (take i xs) ++ filter p (x ∷ []))
    go true h = rw h (ap (λ n. n + 1) so_far ∙ sym (length_push (filter p (take i xs)) x))
    go false h = rw h (so_far ∙ ap (λ (z : List X). length z) (sym (append-nil (filter p (take i xs)))))

  -- The greatest number of the items that pass a test.
  pub raised-next : (p : X → Bool) (f : X → ℕ) (most new : ℕ) → new ≡ (if p x then max most (f x) else most) → most ≡ fold (λ m y. max m (f y)) 0 (filter p (take i xs)) → new ≡ fold (λ m y. max m (f y)) 0 (filter p (take (i + 1) xs))
  raised-next p f most new step so_far =
      step ∙ go (p x) refl ∙ sym (fold-append (λ m y. max m (f y)) 0 (filter p (take i xs)) (filter p (x ∷ []))) ∙ ap (λ (z : List X). fold (λ m y. max m (f y)) 0 z) (sym (filter-get p)) where
        go : (b : Bool) → p x ≡ b → (if p x then max most (f x) else most) ≡ fold (λ m y. max m (f y)) (fold (λ m y. max m (f y)) 0 (filter p (take i xs))) (filter p (x ∷ []))
        go true h = rw h (ap (λ m. max m (f x)) so_far)
        go false h = rw h so_far

  -- The items so far fail a test, and so does one more.
  pub find-on : (p : X → Bool) → p x ≡ false → find p (take i xs) ≡ None → find p (take (i + 1) xs) ≡ None
  find-on p is none =
      let last : find p (x ∷ []) ≡ None = rw is refl in
      ap (find p) take-get ∙ find-append p (take i xs) (x ∷ []) ∙ ap (λ (o : Option X). option_or o (find p (x ∷ []))) none ∙ last

  -- The text of the items.
  pub text-next : (f : X → List ℕ) (old mid new : List ℕ) → mid ≡ old ++ flat_map f (take i xs) → new ≡ mid ++ f x → new ≡ old ++ flat_map f (take (i + 1) xs)
  text-next f old mid new so_far step =
      step ∙ ap (λ m. m ++ f x) so_far ∙ append_assoc old (flat_map f (take i xs)) (f x)
      ∙ ap (λ t. old ++ (flat_map f (take i xs) ++ t)) (sym (append-nil (f x)))
      ∙ ap (λ t. old ++ t) (sym (ap (flat_map f) take-get ∙ flat_map-append f (take i xs) (x ∷ [])))

-- The first item that passes a test, if those before it fail.
pub find-here : {X : Type 0} (p : X → Bool) (xs : List X) (i : ℕ) (x : X) → slice_get xs i ≡ Some x → p x ≡ true → find p (take i xs) ≡ None → Some x ≡ find p xs
find-here p [] i x at is none = absurd (cc at)
find-here p (y ∷ xs) zero x at is none =
    let same : y ≡ x = cc at in
    let passes : p y ≡ true = ap p same ∙ is in
    rw passes (ap Some (sym same))
find-here {X} p (y ∷ xs) (suc i) x at is none = go (p y) refl (find-here p xs i x at is) where
  go : (b : Bool) → p y ≡ b → (find p (take i xs) ≡ None → Some x ≡ find p xs) → Some x ≡ find p (y ∷ xs)
  go true h rest = let some : Some y ≡ None = (rw h at none) in absurd (cc some)
  go false h rest = rw h (rest (rw h at none))

pub find-none : {X : Type 0} (p : X → Bool) (xs : List X) (i : ℕ) → length xs ≤ i → find p (take i xs) ≡ None → None ≡ find p xs
find-none {X} p xs i past none = sym none ∙ ap (λ (z : List X). find p z) (take_all i xs past)

-- What holds of all items holds of one of them, and of one that is found.
pub of-item : {X : Type 0} (P : X → Type 0) (xs : List X) (i : ℕ) (x : X) → All P xs → slice_get xs i ≡ Some x → P x
of-item P xs i x all at = subst P (get_or_from_slice_get xs i x x at) (all i x (slice_get_within xs i x at))

pub of-found : {X : Type 0} (P : X → Type 0) (p : X → Bool) (xs : List X) (x : X) → All P xs → find p xs ≡ Some x → P x
of-found P p [] x all is = absurd (cc is)
of-found {X} P p (y ∷ xs) x all is = go (p y) refl (of-found P p xs x (λ k d lt. all (suc k) d (omega (arith, lt)))) where
  go : (b : Bool) → p y ≡ b → (find p xs ≡ Some x → P x) → P x
  go true h rest = let some : Some y ≡ Some x = (rw h at is) in let same : y ≡ x = cc some in subst P same (all 0 y (omega arith))
  go false h rest = rest (rw h at is)

-- What holds of all items holds of one that a search returns, also if it searches only in one case.
pub fits-found : {X : Type 0} (P : X → Type 0) (p : X → Bool) (xs : List X) (o : Option (Bor X)) → All P xs → option_map (λ e. e.now) o ≡ find p xs → IfSome o (λ e. P e.now)
fits-found P p xs None all is = tt
fits-found P p xs (Some e) all is = of-found P p xs e.now all (sym is)

pub fits-if : {X : Type 0} (P : X → Type 0) (p : X → Bool) (xs : List X) (none : Bool) (o : Option (Bor X)) → All P xs → option_map (λ e. e.now) o ≡ (if none then None else find p xs) → IfSome o (λ e. P e.now)
fits-if P p xs true None all is = tt
fits-if P p xs true (Some e) all is = absurd (cc is)
fits-if P p xs false o all is = fits-found P p xs o all is

-- The first items of a list that is one item longer.
take-snoc : {X : Type 0} (n : ℕ) (xs : List X) (x : X) → take n (xs ++ x ∷ []) ≡ take n xs ++ (if nat_le n (length xs) then [] else x ∷ [])
take-snoc {X} n xs x = go (nat_le n (length xs)) refl where
  go : (b : Bool) → nat_le n (length xs) ≡ b → take n (xs ++ x ∷ []) ≡ take n xs ++ (if nat_le n (length xs) then [] else x ∷ [])
  go true h = let within : n ≤ length xs = leb-true n (length xs) h in rw h (take-append-le n xs (x ∷ []) within ∙ sym (append-nil (take n xs)))
  go false h = rw h (
      let long = length-append xs (x ∷ []) in
      let past : length xs < n = leb-false n (length xs) h in
      take_all n (xs ++ x ∷ []) (omega (arith, long, past)) ∙ ap (λ (z : List X). z ++ x ∷ []) (sym (take_all n xs (omega (arith, past)))))

-- Two parts of a text, and more of them, one after the other.
pub two-parts : (old m1 new a b : List ℕ) → m1 ≡ old ++ a → new ≡ m1 ++ b → new ≡ old ++ (a ++ b)
two-parts old m1 new a b h1 h2 = h2 ∙ ap (λ m. m ++ b) h1 ∙ append_assoc old a b

-- an element's id, and its intervals
pub front-parts : (old mid new id parts : List ℕ) → mid ≡ old ++ (codes "element " ++ (id ++ (codes ": " ++ []))) → new ≡ mid ++ parts → new ≡ old ++ (codes "element " ++ (id ++ (codes ": " ++ parts)))
front-parts old mid new id parts h1 h2 =
    h2 ∙ ap (λ m. m ++ parts) h1 ∙ append_assoc old (codes "element " ++ (id ++ codes ": ")) parts ∙ ap (λ t. old ++ t) (append_assoc (codes "element ") (id ++ codes ": ") parts ∙ ap (λ t. codes "element " ++ t) (append_assoc id (codes ": ") parts))

pub three-parts : (old m1 m2 new a b c : List ℕ) → m1 ≡ old ++ a → m2 ≡ m1 ++ b → new ≡ m2 ++ c → new ≡ old ++ (a ++ (b ++ c))
three-parts old m1 m2 new a b c h1 h2 h3 = two-parts old m1 new a (b ++ c) h1 (two-parts m1 m2 new b c h2 h3)

-- a value, how many elements hold it, and how many there are
pub count-parts : (old m1 m2 new value count total : List ℕ) → m1 ≡ old ++ value → m2 ≡ m1 ++ (codes " is in " ++ (count ++ (codes " of " ++ []))) → new ≡ m2 ++ total → new ≡ old ++ (value ++ (codes " is in " ++ (count ++ (codes " of " ++ total))))
count-parts old m1 m2 new value count total h1 h2 h3 =
    two-parts old m1 new value (codes " is in " ++ (count ++ (codes " of " ++ total))) h1 (h3 ∙ ap (λ m. m ++ total) h2 ∙ append_assoc m1 (codes " is in " ++ (count ++ codes " of ")) total
    ∙ ap (λ t. m1 ++ t) (append_assoc (codes " is in ") (count ++ codes " of ") total ∙ ap (λ t. codes " is in " ++ t) (append_assoc count (codes " of ") total)))

-- the same of another value
pub in-parts : (old m1 m2 new value count : List ℕ) → m1 ≡ old ++ (codes ", " ++ []) → m2 ≡ m1 ++ value → new ≡ m2 ++ (codes " in " ++ (count ++ [])) → new ≡ old ++ (codes ", " ++ (value ++ (codes " in " ++ count)))
in-parts old m1 m2 new value count h1 h2 h3 = three-parts old m1 m2 new (codes ", ") value (codes " in " ++ count) h1 h2 (h3 ∙ ap (λ t. m2 ++ (codes " in " ++ t)) (append-nil count))

-- a set and a key
pub packet-parts : (old m1 m2 new set key end : List ℕ) → m1 ≡ old ++ (set ++ (codes " " ++ [])) → m2 ≡ m1 ++ key → new ≡ m2 ++ end → new ≡ old ++ (set ++ (codes " " ++ (key ++ end)))
packet-parts old m1 m2 new set key end h1 h2 h3 =
    three-parts old m1 m2 new (set ++ codes " ") key end h1 h2 h3 ∙ ap (λ t. old ++ t) (append_assoc set (codes " ") (key ++ end))

pub four-parts : (old m1 m2 m3 new a b c d : List ℕ) → m1 ≡ old ++ a → m2 ≡ m1 ++ b → m3 ≡ m2 ++ c → new ≡ m3 ++ d → new ≡ old ++ (a ++ (b ++ (c ++ d)))
four-parts old m1 m2 m3 new a b c d h1 h2 h3 h4 = two-parts old m1 new a (b ++ (c ++ d)) h1 (three-parts m1 m2 m3 new b c d h2 h3 h4)

pub five-parts : (old m1 m2 m3 m4 new a b c d e : List ℕ) → m1 ≡ old ++ a → m2 ≡ m1 ++ b → m3 ≡ m2 ++ c → m4 ≡ m3 ++ d → new ≡ m4 ++ e → new ≡ old ++ (a ++ (b ++ (c ++ (d ++ e))))
five-parts old m1 m2 m3 m4 new a b c d e h1 h2 h3 h4 h5 = two-parts old m1 new a (b ++ (c ++ (d ++ e))) h1 (four-parts m1 m2 m3 m4 new b c d e h2 h3 h4 h5)

-- One item more, which counts only if it passes a test.
pub joins-if : {X : Type 0} (f : X → List ℕ) (separator : List ℕ) (p : X → Bool) (xs : List X) (i : ℕ) (y : X) (old mid new next next' : List ℕ) → slice_get xs i ≡ Some y → Joins f separator (filter p (take i xs)) old mid next
    → new ≡ mid ++ (if p y then next ++ f y else []) → next' ≡ (if p y then separator else next) → Joins f separator (filter p (take (i + 1) xs)) old new next'
joins-if {X} f separator p xs i y old mid new next next' at so_far step ahead =
    subst (λ (zs : List X). Joins f separator zs old new next') (sym (filter-get xs i y at p)) (go (p y) refl step ahead) where
      go : (b : Bool) → p y ≡ b → new ≡ mid ++ (if p y then next ++ f y else []) → next' ≡ (if p y then separator else next) → Joins f separator (filter p (take i xs) ++ filter p (y ∷ [])) old new next'
      go true h written after =
          let wrote : new ≡ mid ++ (next ++ f y) = (rw h at written) in
          let is : next' ≡ separator = (rw h at after) in
          rw h (subst (λ n. Joins f separator (filter p (take i xs) ++ y ∷ []) old new n) (sym is) (joins_one f separator (filter p (take i xs)) y old mid new next so_far wrote))
      go false h written after =
          let wrote : new ≡ mid = (rw h at written) ∙ append-nil mid in
          let is : next' ≡ next = (rw h at after) in
          rw h (subst (λ (zs : List X). Joins f separator zs old new next') (sym (append-nil (filter p (take i xs)))) (record { text = wrote ∙ so_far.text; ahead = is ∙ so_far.ahead }))

-- The text of the first items after one, if the list is one item longer.
module _ {X : Type 0} (f : X → List ℕ) (limit : ℕ) where
  abbrev named_of : List X → X → List ℕ
  named_of xs x = if nat_le 1 (length xs) && nat_le (length xs) limit then f x else []

  one-named : (xs : List X) (x : X) → flat_map f (take limit (drop 1 (xs ++ x ∷ []))) ≡ flat_map f (take limit (drop 1 xs)) ++ named_of xs x
  one-named [] x = sym (append-nil (flat_map f (take limit [])))
  one-named (y ∷ ys) x =
      ap (flat_map f) (take-snoc limit ys x) ∙ flat_map-append f (take limit ys) (if nat_le limit (length ys) then [] else x ∷ []) ∙ ap (λ t. flat_map f (take limit ys) ++ t) (go (nat_le limit (length ys)) refl) where
        go : (b : Bool) → nat_le limit (length ys) ≡ b → flat_map f (if nat_le limit (length ys) then [] else x ∷ []) ≡ named_of (y ∷ ys) x
        go true h =
            let past : nat_le (length (y ∷ ys)) limit ≡ false = lt-leb (length (y ∷ ys)) limit (let within = leb-true limit (length ys) h in omega (arith, within)) in
            let some : nat_le 1 (length (y ∷ ys)) ≡ true = le-leb 1 (length (y ∷ ys)) (omega arith) in
            rw (h, some, past) refl
        go false h =
            let within : nat_le (length (y ∷ ys)) limit ≡ true = le-leb (length (y ∷ ys)) limit (let past = leb-false limit (length ys) h in omega (arith, past)) in
            let some : nat_le 1 (length (y ∷ ys)) ≡ true = le-leb 1 (length (y ∷ ys)) (omega arith) in
            rw (h, some, within) (append-nil (f x))

  pub named-next : (p : X → Bool) (xs : List X) (i : ℕ) (x : X) (count : ℕ) (old mid new : List ℕ) → slice_get xs i ≡ Some x → count ≡ length (filter p (take i xs)) → mid ≡ old ++ flat_map f (take limit (drop 1 (filter p (take i xs))))
      → new ≡ mid ++ (if p x then (if nat_le 1 count && nat_le count limit then f x else []) else []) → new ≡ old ++ flat_map f (take limit (drop 1 (filter p (take (i + 1) xs))))
  named-next p xs i x count old mid new at is so_far step =
      step ∙ ap (λ m. m ++ (if p x then (if nat_le 1 count && nat_le count limit then f x else []) else [])) so_far
      ∙ append_assoc old (flat_map f (take limit (drop 1 (filter p (take i xs))))) (if p x then (if nat_le 1 count && nat_le count limit then f x else []) else [])
      ∙ ap (λ t. old ++ t) (go (p x) refl ∙ ap (λ (z : List X). flat_map f (take limit (drop 1 z))) (sym (filter-get xs i x at p))) where
        go : (b : Bool) → p x ≡ b
            → flat_map f (take limit (drop 1 (filter p (take i xs)))) ++ (if p x then (if nat_le 1 count && nat_le count limit then f x else []) else [])
            ≡ flat_map f (take limit (drop 1 (filter p (take i xs) ++ filter p (x ∷ []))))
        go true h =
            rw h (ap (λ n. flat_map f (take limit (drop 1 (filter p (take i xs)))) ++ (if nat_le 1 n && nat_le n limit then f x else [])) is
            ∙ sym (one-named (filter p (take i xs)) x))
        go false h =
            rw h (append-nil (flat_map f (take limit (drop 1 (filter p (take i xs)))))
            ∙ ap (λ (z : List X). flat_map f (take limit (drop 1 z))) (sym (append-nil (filter p (take i xs)))))

-- A count is at most the number of things that were looked at.
pub counted-few : (i count new : ℕ) (is : Bool) → new ≡ (if is then count + 1 else count) → count ≤ i → new ≤ i + 1
counted-few i count new true step few = omega (arith, step, few)
counted-few i count new false step few = omega (arith, step, few)
