-- What the steps of a deletion and of a purge find and leave.
use Rattle.std.specs.Prelude.{◌≡◌, ℕ, ◌<◌, List, length, Option, if◌then◌else◌, IfSome}
use Rattle.set_model.specs.declared.kind.Interval.{Interval}
use Rattle.set_model.specs.Expiry.{live}
use Rattle.set_model.specs.SetState.{State, element_at, exact_place, without_at}

-- the place of the first live element of exactly these intervals, within the list
pub record IsExactPlace (s : State) (parts : List Interval) (now : ℕ) (result : Option ℕ) : Type 0 where
  pub value : result ≡ exact_place s parts now
  pub within : IfSome result (λ i. i < length s.elements)

-- the set without the element at a place, if that element is expired at a moment
abbrev pub without_expired_at : State → ℕ → ℕ → State
without_expired_at s i now = if live (element_at s i) now then s else without_at s i
