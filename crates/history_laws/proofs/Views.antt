-- The views of a table's seats, if a step changes or adds one, and functions that change at one
-- number.
use Rattle.std.proofs.Common.{◌≡◌, ◌≢◌, ◌⊎◌, ℕ, zero, suc, ◌+◌, ◌<◌, List, [], ◌∷◌, ◌++◌, length, get_or, set, sym, refl, ap, ◌∙◌, subst, ⊎_elim, inl, inr, arith}
use Rattle.std.specs.List.{sum_by}
use Rattle.std.proofs.lemmas.List.Sums.{sum_by-set}
use mathlib.Core.Option.{some, some-injective, some-ne-none}
use native.Mathlib.Decide.{ℕ_discrete}
use lib.ListN.{get_elem?}
use Rattle.atomic_table.proofs.Lists.{at_set}

module _ {D : Type 0} where
  -- if something holds of each view, it holds after one view changes, provided it holds of the new
  -- one
  pub views_stay : (K : ℕ → D → Type 0) (vs : List D) (me : ℕ) (w : D) → K me w → ((j : ℕ) (d : D) → j ≢ me → get_elem? vs j ≡ some d → K j d)
      → (j : ℕ) (d : D) → get_elem? (set vs me w) j ≡ some d → K j d
  views_stay K vs me w mine others j d e = ⊎_elim (λ (t : (j ≡ me) × (w ≡ d)). subst (λ (x : ℕ × D). K x.0 x.1) (λ i. (sym t.0 i, t.1 i)) mine)
      (λ (t : (j ≢ me) × (get_elem? vs j ≡ some d)). others j d t.0 t.1) (at_set vs me j w d e)

  -- an entry of a list with one more item is an entry of the list, or the last one
  pub at_end : (l : List D) (a b : D) (j : ℕ) → get_elem? (l ++ a ∷ []) j ≡ some b → ((j < length l) × (get_elem? l j ≡ some b)) ⊎ ((j ≡ length l) × (a ≡ b))
  at_end [] a b zero e = inr (refl, some-injective a b e)
  at_end [] a b (suc j) e = absurd (some-ne-none b (sym e))
  at_end (x ∷ xs) a b zero e = inl (omega arith, e)
  at_end (x ∷ xs) a b (suc j) e = ⊎_elim (λ t. let l = t.0 in inl (omega arith, t.1)) (λ t. inr (ap suc t.0, t.1)) (at_end xs a b j e)

  -- an entry of a list is read at its place
  pub entry_read : (l : List D) (j : ℕ) (v : D) → get_elem? l j ≡ some v → (j < length l) × (get_or l j v ≡ v)
  entry_read [] j v e = absurd (some-ne-none v (sym e))
  entry_read (x ∷ xs) zero v e = (omega arith, some-injective x v e)
  entry_read (x ∷ xs) (suc j) v e = let rest = entry_read xs j v e in let l = rest.0 in (omega (arith, l), rest.1)

  -- a sum over the views, after one changes
  pub sum_by-view_set : (f : D → ℕ) (vs : List D) (j : ℕ) (v w : D) → get_elem? vs j ≡ some v → sum_by f (set vs j w) + f v ≡ sum_by f vs + f w
  sum_by-view_set f vs j v w e = let read = entry_read vs j v e in ap (λ (z : D). sum_by f (set vs j w) + f z) (sym read.1) ∙ sum_by-set f vs j w v read.0

abbrev pick : {P A : Type 0} → Dec P → A → A → A
pick (yes _) a b = a
pick (no _) a b = b

module _ {A : Type 0} where
  -- the function f, with c at i
  pub put : (ℕ → A) → ℕ → A → ℕ → A
  put f i c j = pick (ℕ_discrete j i) c (f j)

  pub put_here : (f : ℕ → A) (i : ℕ) (c : A) → put f i c i ≡ c
  unfolding put
  put_here f i c = go (ℕ_discrete i i)
    where
      go : (d : Dec (i ≡ i)) → pick d c (f i) ≡ c
      go (yes _) = refl
      go (no n) = absurd (n refl)

  pub put_else : (f : ℕ → A) (i : ℕ) (c : A) (j : ℕ) → j ≢ i → put f i c j ≡ f j
  unfolding put
  put_else f i c j other = go (ℕ_discrete j i)
    where
      go : (d : Dec (j ≡ i)) → pick d c (f j) ≡ f j
      go (yes e) = absurd (other e)
      go (no _) = refl

  -- at a number that is i
  pub put_at : (f : ℕ → A) (i : ℕ) (c : A) (j : ℕ) → j ≡ i → put f i c j ≡ c
  put_at f i c j e = ap (put f i c) e ∙ put_here f i c
