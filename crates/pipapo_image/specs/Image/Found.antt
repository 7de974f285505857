-- What a lookup returns.
use Rattle.std.specs.Prelude.{◌≡◌, ℕ, ◌<◌, List, length, Option, IfSome, option_map}
use Rattle.set_model.specs.declared.kind.Interval.{Interval}
use Rattle.set_model.specs.declared.packet.Found.{Found}
use Rattle.set_model.specs.SetState.{State, element_at, place, exact_place}

-- the place and the id of the element at a place
abbrev pub found_at : State → Option ℕ → Option Found
found_at s place = option_map (λ i. record { place = i; id = (element_at s i).id }) place

-- the place and the id of the first live element that holds the key
abbrev pub found : State → List ℕ → ℕ → Option Found
found s key now = found_at s (place s key now)

-- the place and the id of the first live element of exactly these intervals
abbrev pub exactly_found : State → List Interval → ℕ → Option Found
exactly_found s parts now = found_at s (exact_place s parts now)

-- an answer that is that place, within the list
pub record IsPlace (s : State) (key : List ℕ) (now : ℕ) (result : Option ℕ) : Type 0 where
  pub value : result ≡ place s key now
  pub within : IfSome result (λ i. i < length s.elements)
