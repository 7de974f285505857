-- The place that a lookup returns.
use Rattle.std.proofs.Common.{◌≡◌, sym, ℕ, ◌<◌, Bool, List, [], ◌∷◌, length, Option, Some, None}
use Rattle.std.specs.Prelude.{position, IfSome}
use Rattle.std.proofs.lemmas.List.Quantifiers.{position-Some}
use Rattle.set_model.specs.SetState.{State, place, answers, sharing_place, is_sharing}
use Rattle.set_model.specs.declared.kind.Interval.{Interval}
use Rattle.pipapo_image.specs.Image.Found.{IsPlace}
use Rattle.pipapo_image.specs.Index.Sharing.{IsSharingPlace}

within-by : {X : Type 0} (p : X → Bool) (xs : List X) (o : Option ℕ) → o ≡ position p xs → IfSome o (λ i. i < length xs)
within-by p xs None h = tt
within-by p [] (Some i) h = absurd (cc h)
within-by p (x ∷ xs) (Some i) h = (position-Some p (x ∷ xs) i x (sym h)).0

pub is-place : (s : State) (key : List ℕ) (now : ℕ) (result : Option ℕ) → result ≡ place s key now → IsPlace s key now result
is-place s key now result h = record { value = h; within = within-by (answers key now) s.elements result h }

pub is-sharing-place : (s : State) (parts : List Interval) (now : ℕ) (result : Option ℕ) → result ≡ sharing_place s parts now → IsSharingPlace s parts now result
is-sharing-place s parts now result h = record { value = h; within = within-by (is_sharing parts now) s.elements result h }
