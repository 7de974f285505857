-- Values that have a state, as the versions that readers hold.
use Rattle.std.specs.Prelude.{◌≡◌, List, [], ◌∷◌, Option, Some, None}

module _ {T X : Type 0} where
  -- all values have this state
  abbrev pub AllAre : (T → X) → X → List T → Type 0
  AllAre state x [] = Unit {0}
  AllAre state x (v ∷ vs) = (state v ≡ x) × AllAre state x vs

  -- the values are there, and all have this state
  abbrev pub AllShow : (T → X) → X → List (Option T) → Type 0
  AllShow state x [] = Unit {0}
  AllShow state x (Some v ∷ ys) = (state v ≡ x) × AllShow state x ys
  AllShow state x (None ∷ ys) = ⊥
