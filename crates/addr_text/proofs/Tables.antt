-- Whole tables that are tested entry by entry, and searches in them.
use Rattle.std.proofs.Common.{◌≡◌, ℕ, ◌||◌, Bool, true, false, cond, List, [], ◌∷◌, Some, bytes_eq, find, Contains, refl, sym, subst, true≢false}
use Rattle.std.proofs.lemmas.Bool.{and_parts}
use Rattle.std.proofs.lemmas.Option.{none-some, same_Some}
use Rattle.std.proofs.lemmas.List.Elements.{All-contains, All-from_recursion}
use Rattle.std.proofs.lemmas.Slice.Eq.{bytes_eq-Decides}
use Rattle.std.specs.List.{list_all, list_any, AllByRecursion as ByRecursion}

unfoldable pub Passes : {X : Type 0} → (X → Bool) → X → Type 0
Passes test x = test x ≡ true

pub each-passes : {X : Type 0} (test : X → Bool) (xs : List X) → list_all test xs ≡ true → ByRecursion (Passes test) xs
unfolding Passes
each-passes test [] all = tt
each-passes test (x ∷ xs) all = let (first, others) = and_parts (test x) (list_all test xs) all in (first, each-passes test xs others)

-- a test that the whole table passes holds of each entry
pub passes : {X : Type 0} (test : X → Bool) (xs : List X) (x : X) → list_all test xs ≡ true → Contains xs x → test x ≡ true
unfolding Passes
passes test xs x all at = All-contains (Passes test) xs x (All-from_recursion (Passes test) xs (each-passes test xs all)) at

-- what a search finds passes its test, and has what each entry has
pub found : {X : Type 0} (P : X → Type 0) (test : X → Bool) (xs : List X) (x : X) → ByRecursion P xs → find test xs ≡ Some x → P x × (test x ≡ true)
found P test [] x each e = absurd (none-some x e)
found P test (y ∷ ys) x each e = go (test y) refl e (found P test ys x each.1) where
  go : (b : Bool) → test y ≡ b → cond b (Some y) (find test ys) ≡ Some x → (find test ys ≡ Some x → P x × (test x ≡ true)) → P x × (test x ≡ true)
  go true is here later = subst (λ (z : _). P z × (test z ≡ true)) (same_Some y x here) (each.0, is)
  go false is here later = later here

-- what each name of a list has, a text has that is one of them
pub among : (P : List ℕ → Type 0) (names : List (List ℕ)) (text : List ℕ) → ByRecursion P names → list_any (λ name. bytes_eq name text) names ≡ true → P text
among P [] text each is = absurd (true≢false (sym is))
among P (name ∷ names) text each is = go (bytes_eq name text) refl is (among P names text each.1) where
  go : (b : Bool) → bytes_eq name text ≡ b → (b || list_any (λ n. bytes_eq n text) names) ≡ true → (list_any (λ n. bytes_eq n text) names ≡ true → P text) → P text
  go true same here later = subst P ((bytes_eq-Decides name text).0 same) each.0
  go false same here later = later here
