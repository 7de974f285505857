-- Values that have a state.
use Rattle.std.proofs.Common.{◌≡◌, ℕ, zero, suc, ◌<◌, List, [], ◌∷◌, ◌++◌, length, get_or, sym, refl, ◌∙◌, arith, Option, Some, None}
use Rattle.history_laws.specs.States.{AllAre, AllShow}

module _ {T X : Type 0} (state : T → X) where
  pub first_state : (x : X) (first : List T) (d : T) → AllAre state x first → 0 < length first → state (get_or first 0 d) ≡ x
  first_state x [] d a l = absurd (omega arith)
  first_state x (v ∷ vs) d a l = a.0

  -- each of the values has it
  pub one_state : (x : X) (front : List T) (v : T) (back : List T) → AllAre state x (front ++ v ∷ back) → state v ≡ x
  one_state x [] v back a = a.0
  one_state x (w ∷ front) v back a = one_state x front v back a.1

  -- values that are there have one state
  pub all_show_same : (x y : X) (ys : List (Option T)) → 0 < length ys → AllShow state x ys → AllShow state y ys → x ≡ y
  all_show_same x y [] l a b = absurd (omega arith)
  all_show_same x y (Some v ∷ ys) l a b = sym a.0 ∙ b.0
  all_show_same x y (None ∷ ys) l a b = absurd a

  pub show_at : (x : X) (ys : List (Option T)) (i : ℕ) (d : Option T) → AllShow state x ys → i < length ys → (v : T) × (get_or ys i d ≡ Some v) × (state v ≡ x)
  show_at x [] i d a l = absurd (omega arith)
  show_at x (Some v ∷ ys) zero d a l = (v, refl, a.0)
  show_at x (Some v ∷ ys) (suc i) d a l = show_at x ys i d a.1 (omega arith)
  show_at x (None ∷ ys) i d a l = absurd a
