-- The vector of places.
use Rattle.std.proofs.Common.{◌≡◌, ◌≢◌, ℕ, zero, suc, List, [], ◌∷◌, ◌++◌, length, set, replicate, sym, refl, ap, ◌∙◌, subst, ⊎_elim, Option, Some, None, length-set, unwrap_or}
use mathlib.Core.Option.{some, some-injective, some-ne-none}
use lib.ListN.{get_elem?, length-replicate}
use Rattle.atomic_table.proofs.Lists.{at_set}
use Rattle.history_laws.specs.Histories.{EndsWith}
use Rattle.history_laws.specs.States.{AllShow}
use Rattle.history_laws.proofs.Views.{put, put_at, put_else}
use Rattle.gen_turns.specs.TurnRule.{ShowsLast, IsStocked, AreLast}

module _ {T X : Type 0} (state : T → X) where
  -- the reader r takes what its place has
  pub stocked_less : (n : ℕ) (made : List X) (last : ℕ → List X) (r : ℕ) (ps : List (Option T)) → IsStocked state n made last ps → IsStocked state n made (put last r made) (set ps r None)
  stocked_less n made last r ps h = (
    length-set ps r None ∙ h.0,
    λ i p at_i. ⊎_elim (λ (t : (i ≡ r) × (None ≡ p)). subst (ShowsLast state made (put last r made i)) t.1 (put_at last r made i t.0))
        (λ (t : (i ≢ r) × (get_elem? ps i ≡ some p)). subst (λ (l : List X). ShowsLast state made l p) (sym (put_else last r made i t.0)) (h.1 i p t.1)) (at_set ps r i None p at_i),
  )

  shown_fresh : (x : X) (made last : List X) (ps : List (Option T)) → AllShow state x ps → (i : ℕ) (p : Option T) → get_elem? ps i ≡ some p → ShowsLast state (made ++ x ∷ []) last p
  shown_fresh x made last [] a i p e = absurd (some-ne-none p (sym e))
  shown_fresh x made last (Some v ∷ ps) a zero p e = subst (ShowsLast state (made ++ x ∷ []) last) (some-injective (Some v) p e) (made, ap (λ (z : X). made ++ z ∷ []) (sym a.0))
  shown_fresh x made last (Some v ∷ ps) a (suc i) p e = shown_fresh x made last ps a.1 i p e
  shown_fresh x made last (None ∷ ps) a i p e = absurd a

  -- the places have values of the state that was published
  pub stocked_new : (n : ℕ) (x : X) (made : List X) (last : ℕ → List X) (ps : List (Option T)) → length ps ≡ n → AllShow state x ps → IsStocked state n (made ++ x ∷ []) last ps
  stocked_new n x made last ps size a = (size, λ r p e. shown_fresh x made (last r) ps a r p e)

  all_none : (m i : ℕ) (p : Option T) → get_elem? (replicate m None) i ≡ some p → None ≡ p
  all_none zero i p e = absurd (some-ne-none p (sym e))
  all_none (suc m) zero p e = some-injective None p e
  all_none (suc m) (suc i) p e = all_none m i p e

  pub stocked_none : (n : ℕ) (made : List X) → IsStocked state n made (λ _. made) (replicate n None)
  stocked_none n made = (length-replicate n (let a : Option T = None in a), λ r p e. subst (ShowsLast state made made) (all_none n r p e) refl)

  pub are_last : (made : List X) (last : ℕ → List X) (ps : List (Option T)) → ((r : ℕ) (p : Option T) → get_elem? ps r ≡ some p → ShowsLast state made (last r) p) → AreLast state made ps
  are_last made last [] h = tt
  are_last made last (Some v ∷ ps) h = (h 0 (Some v) refl, are_last made (λ r. last (suc r)) ps (λ r p e. h (suc r) p e))
  are_last made last (None ∷ ps) h = are_last made (λ r. last (suc r)) ps (λ r p e. h (suc r) p e)

  -- the value that a reader has after its turn
  pub newer : (whole last : List X) (p : Option T) (kept : T) → ShowsLast state whole last p → EndsWith last (state kept) → EndsWith whole (state (unwrap_or p kept))
  newer whole last (Some v) kept f e = f
  newer whole last None kept f e = subst (λ (l : List X). EndsWith l (state kept)) f e
