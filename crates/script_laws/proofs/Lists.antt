-- Lists: the item at an end or at a place, and lists that are numbered.
use Rattle.std.proofs.Common.{subst, get_or, ◌≡◌, refl, sym, ◌∙◌, ap, ℕ, zero, suc, ◌+◌, ◌<◌, Bool, true, false, ◌||◌, List, [], ◌∷◌, ◌++◌, length, map, take, drop, slice_get, Some, None, Option, arith, All, slice_index_or, option_map, unwrap_or, ◌⊎◌, inl, inr, zero-add}
use Rattle.std.specs.List.{enumerate_from, list_any}
use Rattle.std.proofs.lemmas.List.{take-map, drop-map}
use Rattle.std.proofs.lemmas.Option.{slice_get-map, slice_get_within, get_or_from_slice_get}
use Rattle.script_laws.specs.Sections.{section_at}

module _ {X : Type 0} where
  pub All-head : (P : X → Type 0) (x : X) (xs : List X) → All P (x ∷ xs) → P x
  All-head P x xs h = h 0 x (omega arith)

  pub All-tail : (P : X → Type 0) (x : X) (xs : List X) → All P (x ∷ xs) → All P xs
  All-tail P x xs h = λ k d lt. h (suc k) d (omega (arith, lt))

  pub All-snoc : (P : X → Type 0) (xs : List X) (x : X) → All P xs → P x → All P (xs ++ x ∷ [])
  All-snoc P [] x h p = λ k d lt. last k d lt where
    last : (k : ℕ) (d : X) → k < 1 → P (slice_index_or (x ∷ []) k d)
    last zero d lt = p
    last (suc k) d lt = absurd (omega (arith, lt))
  All-snoc P (y ∷ xs) x h p = λ k d lt. each k d lt (All-snoc P xs x (All-tail P y xs h) p) where
    each : (k : ℕ) (d : X) → k < length (y ∷ xs ++ x ∷ []) → All P (xs ++ x ∷ []) → P (slice_index_or (y ∷ xs ++ x ∷ []) k d)
    each zero d lt rest = All-head P y xs h
    each (suc k) d lt rest = rest k d (omega (arith, lt))

  pub snoc-at : (xs : List X) (x : X) (i : ℕ) → i ≡ length xs → slice_get (xs ++ x ∷ []) i ≡ Some x
  snoc-at [] x zero e = refl
  snoc-at [] x (suc i) e = absurd (omega (arith, e))
  snoc-at (y ∷ xs) x zero e = absurd (omega (arith, e))
  snoc-at (y ∷ xs) x (suc i) e = snoc-at xs x i (omega (arith, e))

  -- one more item, with its number
  pub enumerate-snoc : (from : ℕ) (xs : List X) (x : X) → enumerate_from from (xs ++ x ∷ []) ≡ enumerate_from from xs ++ (from + length xs, x) ∷ []
  enumerate-snoc from [] x = ap (λ n. (n, x) ∷ []) (omega arith)
  enumerate-snoc from (y ∷ xs) x =
      ap (λ r. (from, y) ∷ r) (enumerate-snoc (from + 1) xs x
      ∙ ap (λ n. enumerate_from (from + 1) xs ++ (n, x) ∷ []) (omega arith))

  pub length-enumerate : (from : ℕ) (xs : List X) → length (enumerate_from from xs) ≡ length xs
  length-enumerate from [] = refl
  length-enumerate from (x ∷ xs) = ap suc (length-enumerate (from + 1) xs)

  pub enumerate-get : (from p : ℕ) (xs : List X) (n : ℕ × X) → slice_get (enumerate_from from xs) p ≡ Some n → (n.0 ≡ from + p) × (slice_get xs p ≡ Some n.1)
  enumerate-get from p [] n h = absurd (cc h)
  enumerate-get from zero (x ∷ xs) n h = let e : (from, x) ≡ n = cc h in (sym (ap (λ (m : ℕ × X). m.0) e) ∙ omega arith, ap (λ (m : ℕ × X). Some m.1) e)
  enumerate-get from (suc p) (x ∷ xs) n h = let rest = enumerate-get (from + 1) p xs n h in (omega (arith, rest.0), rest.1)

  pub take-enumerate : (n from : ℕ) (xs : List X) → take n (enumerate_from from xs) ≡ enumerate_from from (take n xs)
  take-enumerate zero from xs = refl
  take-enumerate (suc n) from [] = refl
  take-enumerate (suc n) from (x ∷ xs) = ap (λ r. (from, x) ∷ r) (take-enumerate n (from + 1) xs)

  pub drop-enumerate : (n from : ℕ) (xs : List X) → drop n (enumerate_from from xs) ≡ enumerate_from (from + n) (drop n xs)
  drop-enumerate zero from xs = ap (λ m. enumerate_from m xs) (omega arith)
  drop-enumerate (suc n) from [] = refl
  drop-enumerate (suc n) from (x ∷ xs) = drop-enumerate n (from + 1) xs ∙ ap (λ m. enumerate_from m (drop n xs)) (omega arith)

  -- an item of two lists is of the first or of the second
  pub append-either : (xs ys : List X) (p : ℕ) (x : X) → slice_get (xs ++ ys) p ≡ Some x → (slice_get xs p ≡ Some x) ⊎ ((q : ℕ) × (slice_get ys q ≡ Some x) × (p ≡ length xs + q))
  append-either [] ys p x h = inr (p, h, omega arith)
  append-either (y ∷ xs) ys zero x h = inl h
  append-either (y ∷ xs) ys (suc p) x h = onward (append-either xs ys p x h) where
    onward : (slice_get xs p ≡ Some x) ⊎ ((q : ℕ) × (slice_get ys q ≡ Some x) × (p ≡ length xs + q)) → (slice_get xs p ≡ Some x) ⊎ ((q : ℕ) × (slice_get ys q ≡ Some x) × (suc p ≡ length (y ∷ xs) + q))
    onward (inl k) = inl k
    onward (inr k) = inr (k.0, k.1, let e = k.2 in omega (arith, e))

  -- the first list of two, and what is after it
  pub take-first : (xs ys : List X) → take (length xs) (xs ++ ys) ≡ xs
  take-first [] ys = refl
  take-first (x ∷ xs) ys = ap (λ r. x ∷ r) (take-first xs ys)

  pub drop-take-behind : (xs ys : List X) (a b : ℕ) → drop (length xs + a) (take (length xs + b) (xs ++ ys)) ≡ drop a (take b ys)
  drop-take-behind [] ys a b = rw (zero-add, zero-add) refl
  drop-take-behind (x ∷ xs) ys a b =
      let front : length (x ∷ xs) + b ≡ suc (length xs + b) = omega arith in
      let behind : length (x ∷ xs) + a ≡ suc (length xs + a) = omega arith in
      rw (front, behind) (drop-take-behind xs ys a b)

  pub list_any-append : (p : X → Bool) (xs ys : List X) → list_any p (xs ++ ys) ≡ (list_any p xs || list_any p ys)
  list_any-append p [] ys = refl
  list_any-append p (x ∷ xs) ys = ap (λ t. p x || t) (list_any-append p xs ys) ∙ sym (or_assoc (p x) (list_any p xs) (list_any p ys)) where
    or_assoc : (a b c : Bool) → ((a || b) || c) ≡ (a || (b || c))
    or_assoc true b c = refl
    or_assoc false b c = refl

  pub of-item : (P : X → Type 0) (xs : List X) (p : ℕ) (x : X) → All P xs → slice_get xs p ≡ Some x → P x
  of-item P xs p x h e = rw (← get_or_from_slice_get xs p x x e) (h p x (slice_get_within xs p x e))

  -- what holds of all items holds of the one at a place
  pub of-place : (P : X → Type 0) (xs ys : List X) (i : ℕ) (x : X) → xs ≡ ys → i < length xs → x ≡ get_or xs i x → All P ys → P x
  of-place P xs ys i x same h e all = rw e (subst (λ (z : List X). All P z) (sym same) all i x h)

  -- a place within a list has an item
  pub item-at : (xs : List X) (i : ℕ) → i < length xs → (x : X) × (slice_get xs i ≡ Some x)
  item-at [] i h = absurd (omega (arith, h))
  item-at (x ∷ xs) zero h = (x, refl)
  item-at (x ∷ xs) (suc i) h = item-at xs i (omega (arith, h))

  -- what holds of the item at each place holds of all
  pub each-item : (P : X → Type 0) (xs : List X) → ((i : ℕ) (x : X) → slice_get xs i ≡ Some x → P x) → All P xs
  each-item P [] h = λ k d lt. absurd (omega (arith, lt))
  each-item P (x ∷ xs) h = λ k d lt. go k d lt (each-item P xs (λ i y e. h (suc i) y e)) where
    go : (k : ℕ) (d : X) → k < length (x ∷ xs) → All P xs → P (slice_index_or (x ∷ xs) k d)
    go zero d lt rest = h 0 x refl
    go (suc k) d lt rest = rest k d (omega (arith, lt))

  pub All-section : (P : X → Type 0) (xs : List (List X)) (j : ℕ) → All (All P) xs → All P (section_at xs j)
  All-section P xs j h = go (slice_get xs j) refl where
    go : (o : Option (List X)) → slice_get xs j ≡ o → All P (unwrap_or o [])
    go None e = λ k d lt. absurd (omega (arith, lt))
    go (Some ys) e = rw (← get_or_from_slice_get xs j ys ys e) (h j ys (slice_get_within xs j ys e))

mapped : {A B : Type 0} (f : A → B) (o : Option A) (b : B) → option_map f o ≡ Some b → (a : A) × (o ≡ Some a) × (f a ≡ b)
mapped f None b h = absurd (cc h)
mapped f (Some a) b h = (a, refl, cc h)

-- the numbered item at a place of a list that was made from the items
pub numbered : {A B : Type 0} (f : ℕ × A → B) (xs : List A) (p : ℕ) (b : B) → slice_get (map f (enumerate_from 0 xs)) p ≡ Some b
    → (x : A) × (slice_get xs p ≡ Some x) × (f (p, x) ≡ b)
numbered {A} f xs p b h =
    let at = mapped f (slice_get (enumerate_from 0 xs) p) b (sym (slice_get-map f (enumerate_from 0 xs) p) ∙ h) in
    let found = enumerate-get 0 p xs at.0 at.1 in
    let number : at.0.0 ≡ p = omega (arith, found.0) in
    (at.0.1, found.1, ap (λ n. f (n, at.0.1)) (sym number) ∙ at.2)

-- a part of the items that are numbered and mapped
pub part-numbered : {A B : Type 0} (f : ℕ × A → B) (xs : List A) (a b : ℕ) → drop a (take b (map f (enumerate_from 0 xs))) ≡ map f (enumerate_from a (drop a (take b xs)))
part-numbered f xs a b =
    ap (drop a) (take-map f b (enumerate_from 0 xs) ∙ ap (map f) (take-enumerate b 0 xs))
    ∙ drop-map f a (enumerate_from 0 (take b xs))
    ∙ ap (map f) (drop-enumerate a 0 (take b xs))
    ∙ ap (λ n. map f (enumerate_from n (drop a (take b xs)))) (zero-add a)

-- items that are numbered anew
pub numbered-again : {A B C : Type 0} (f : ℕ × B → C) (g : ℕ × A → B) (h : ℕ × A → C) → ((n m : ℕ) (x : A) → f (n, g (m, x)) ≡ h (n, x))
    → (n m : ℕ) (xs : List A) → map f (enumerate_from n (map g (enumerate_from m xs))) ≡ map h (enumerate_from n xs)
numbered-again f g h same n m [] = refl
numbered-again f g h same n m (x ∷ xs) = ap (λ z. z ∷ map f (enumerate_from (n + 1) (map g (enumerate_from (m + 1) xs)))) (same n m x) ∙ ap (λ r. h (n, x) ∷ r) (numbered-again f g h same (n + 1) (m + 1) xs)
