-- A list without the items that fail a test: the first item that passes another test, and changes
-- of the list.
use Rattle.std.proofs.Common.{◌≡◌, refl, sym, ◌∙◌, ap, ℕ, zero, suc, ◌+◌, ◌<◌, Bool, true, false, ◌&&◌, cond, List, [], ◌∷◌, length, take, get_or, slice_set, Option, Some, None, arith}
use Rattle.std.specs.Prelude.{filter, position, remove, option_map}
use Rattle.std.proofs.lemmas.List.Sums.{length-filter, count_by-le-length}
use Rattle.set_tables.proofs.RowLaws.{position-cons}

-- the place of an item among those that pass
abbrev pub moved : {X : Type 0} → (X → Bool) → List X → ℕ → ℕ
moved q xs i = length (filter q (take i xs))

module _ {X : Type 0} (q : X → Bool) where
  pub moved-within : (xs : List X) (i : ℕ) (d : X) → i < length xs → q (get_or xs i d) ≡ true → moved q xs i < length (filter q xs)
  moved-within [] i d l h = absurd (omega arith)
  moved-within (x ∷ xs) zero d l h = rw h (omega arith)
  moved-within (x ∷ xs) (suc i) d l h = go (q x) (moved-within xs i d (omega arith) h) where
    go : (t : Bool) → moved q xs i < length (filter q xs) → length (cond t (x ∷ filter q (take i xs)) (filter q (take i xs))) < length (cond t (x ∷ filter q xs) (filter q xs))
    go true ih = omega arith
    go false ih = ih

  pub get_or-kept : (xs : List X) (i : ℕ) (d : X) → i < length xs → q (get_or xs i d) ≡ true → get_or (filter q xs) (moved q xs i) d ≡ get_or xs i d
  get_or-kept [] i d l h = absurd (omega arith)
  get_or-kept (x ∷ xs) zero d l h = rw h refl
  get_or-kept (x ∷ xs) (suc i) d l h = go (q x) (get_or-kept xs i d (omega arith) h) where
    go : (t : Bool) → get_or (filter q xs) (moved q xs i) d ≡ get_or xs i d
        → get_or (cond t (x ∷ filter q xs) (filter q xs)) (length (cond t (x ∷ filter q (take i xs)) (filter q (take i xs)))) d ≡ get_or xs i d
    go true ih = ih
    go false ih = ih

  -- an item that passes is removed, before or after the failing items are left out
  pub remove-kept : (xs : List X) (i : ℕ) (d : X) → i < length xs → q (get_or xs i d) ≡ true → remove (filter q xs) (moved q xs i) ≡ filter q (remove xs i)
  remove-kept [] i d l h = absurd (omega arith)
  remove-kept (x ∷ xs) zero d l h = rw h refl
  remove-kept (x ∷ xs) (suc i) d l h = go (q x) (remove-kept xs i d (omega arith) h) where
    go : (t : Bool) → remove (filter q xs) (moved q xs i) ≡ filter q (remove xs i)
        → remove (cond t (x ∷ filter q xs) (filter q xs)) (length (cond t (x ∷ filter q (take i xs)) (filter q (take i xs)))) ≡ cond t (x ∷ filter q (remove xs i)) (filter q (remove xs i))
    go true ih = ap (λ z. x ∷ z) ih
    go false ih = ih

  -- an item that passes is replaced by one that passes, before or after the failing items are left
  -- out
  pub set-kept : (xs : List X) (i : ℕ) (y d : X) → i < length xs → q (get_or xs i d) ≡ true → q y ≡ true → slice_set (filter q xs) (moved q xs i) y ≡ filter q (slice_set xs i y)
  set-kept [] i y d l h k = absurd (omega arith)
  set-kept (x ∷ xs) zero y d l h k = rw (h, k) refl
  set-kept (x ∷ xs) (suc i) y d l h k = go (q x) (set-kept xs i y d (omega arith) h k) where
    go : (t : Bool) → slice_set (filter q xs) (moved q xs i) y ≡ filter q (slice_set xs i y)
        → slice_set (cond t (x ∷ filter q xs) (filter q xs)) (length (cond t (x ∷ filter q (take i xs)) (filter q (take i xs)))) y ≡ cond t (x ∷ filter q (slice_set xs i y)) (filter q (slice_set xs i y))
    go true ih = ap (λ z. x ∷ z) ih
    go false ih = ih

  -- An item that is replaced by a failing item is left out.
  pub set-gone : (xs : List X) (i : ℕ) (y : X) → i < length xs → q y ≡ false → filter q (slice_set xs i y) ≡ filter q (remove xs i)
  set-gone [] i y l k = absurd (omega arith)
  set-gone (x ∷ xs) zero y l k = rw k refl
  set-gone (x ∷ xs) (suc i) y l k = ap (λ z. cond (q x) (x ∷ z) z) (set-gone xs i y (omega arith) k)

  whole-rest : (x : X) (xs : List X) → filter q (x ∷ xs) ≡ x ∷ xs → (q x ≡ true) × (filter q xs ≡ xs)
  whole-rest x xs h = go (q x) refl h where
    go : (t : Bool) → q x ≡ t → cond t (x ∷ filter q xs) (filter q xs) ≡ x ∷ xs → (q x ≡ true) × (filter q xs ≡ xs)
    go true e h = (e, cc h)
    go false e h =
        let a = length-filter q xs in
        let b = count_by-le-length q xs in
        let c = ap length h in
        absurd (omega (arith, a, b, c))

  -- If all items pass, those that a removal leaves pass, too.
  pub remove-whole : (xs : List X) (i : ℕ) → filter q xs ≡ xs → filter q (remove xs i) ≡ remove xs i
  remove-whole [] zero h = refl
  remove-whole [] (suc i) h = refl
  remove-whole (x ∷ xs) zero h = (whole-rest x xs h).1
  remove-whole (x ∷ xs) (suc i) h =
      let a = whole-rest x xs h in
      ap (λ t. cond t (x ∷ filter q (remove xs i)) (filter q (remove xs i))) a.0 ∙ ap (λ z. x ∷ z) (remove-whole xs i a.1)

  -- Take the items that pass one test. The first of them that passes the other test is the first
  -- item that passes both.
  pub position-both : (both p : X → Bool) → ((x : X) → both x ≡ (q x && p x)) → (xs : List X) → position p (filter q xs) ≡ option_map (moved q xs) (position both xs)
  position-both both p each [] = refl
  position-both both p each (x ∷ xs) =
      first (q x) ∙ ap (λ o. cond (q x) (cond (p x) (Some 0) (option_map (λ i. 1 + i) o)) o) (position-both both p each xs)
      ∙ by-tests (q x) (p x) (position both xs) ∙ ap (λ v. cond v (Some 0) (option_map (λ i. length (cond (q x) (x ∷ filter q (take i xs)) (filter q (take i xs)))) (position both xs))) (sym (each x))
      ∙ behind (both x) (position both xs) ∙ ap (option_map (moved q (x ∷ xs))) (sym (position-cons both x xs)) where
        first : (t : Bool) → position p (cond t (x ∷ filter q xs) (filter q xs))
            ≡ cond t (cond (p x) (Some 0) (option_map (λ i. 1 + i) (position p (filter q xs)))) (position p (filter q xs))
        first true = position-cons p x (filter q xs)
        first false = refl

        by-tests : (t u : Bool) (o : Option ℕ)
            → cond t (cond u (Some 0) (option_map (λ i. 1 + i) (option_map (moved q xs) o))) (option_map (moved q xs) o)
            ≡ cond (t && u) (Some 0) (option_map (λ i. length (cond t (x ∷ filter q (take i xs)) (filter q (take i xs)))) o)
        by-tests true true o = refl
        by-tests true false None = refl
        by-tests true false (Some i) = ap Some (omega arith)
        by-tests false u o = refl

        behind : (u : Bool) (o : Option ℕ) → cond u (Some 0) (option_map (λ i. length (cond (q x) (x ∷ filter q (take i xs)) (filter q (take i xs)))) o)
            ≡ option_map (moved q (x ∷ xs)) (cond u (Some 0) (option_map (λ i. 1 + i) o))
        behind true o = refl
        behind false None = refl
        behind false (Some i) = let n : suc i ≡ 1 + i = omega arith in ap (λ k. Some (moved q (x ∷ xs) k)) n

  -- Items that pass one test and then another are the items that pass both.
  pub filter-both : (both p : X → Bool) → ((x : X) → both x ≡ (q x && p x)) → (xs : List X) → filter p (filter q xs) ≡ filter both xs
  filter-both both p each [] = refl
  filter-both both p each (x ∷ xs) = go (q x) (filter-both both p each xs) ∙ ap (λ v. cond v (x ∷ filter both xs) (filter both xs)) (sym (each x)) where
    go : (t : Bool) → filter p (filter q xs) ≡ filter both xs → filter p (cond t (x ∷ filter q xs) (filter q xs)) ≡ cond (t && p x) (x ∷ filter both xs) (filter both xs)
    go true ih = ap (λ z. cond (p x) (x ∷ z) z) ih
    go false ih = ih
