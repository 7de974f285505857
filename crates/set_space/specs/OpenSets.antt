-- The states that the sets of a work represent, given the sets of its base.
use Rattle.std.specs.Prelude.{◌≡◌, ◌<◌, ◌^◌, ℕ, List, [], ◌∷◌, Option, Some, None, not, count_by, slice_get}
use Rattle.std.specs.Arc.{arc_value}
use Rattle.set_model.specs.SetState.{State, purged}
use Rattle.set_model.specs.Expiry.{live}
use Rattle.expiry_scan.specs.Expired.{is_expired}
use Rattle.set_space.specs.LazyImage.{set_of}
use Rattle.set_space.specs.declared.open_set.OpenSet.{OpenSet}
use Rattle.set_space.specs.declared.open_set.OpenSet.TheVariants.{Unchanged, Changed, Sealed}

-- the state of an open set, given the state of the base
abbrev pub open_state : OpenSet → State → State
open_state Unchanged base = base
open_state (Changed changed) base = set_of changed
open_state (Sealed shared) base = arc_value shared

-- the states of all sets
abbrev pub open_states : List OpenSet → List State → List State
open_states [] bases = []
open_states (o ∷ os) [] = []
open_states (o ∷ os) (base ∷ bases) = open_state o base ∷ open_states os bases

-- A set without its expired elements, and their number, fewer than 2^32. Nothing if none is
-- expired.
abbrev pub IsPurgedAnew : State → ℕ → Option (State × ℕ) → Type 0
IsPurgedAnew s now (Some (t, count)) = (t ≡ purged s now) × (count ≡ count_by (is_expired now) s.elements) × (count < 2 ^ 32)
IsPurgedAnew s now None = count_by (is_expired now) s.elements ≡ 0

-- The state at a place without its expired elements, and their number, fewer than 2^32.
pub record IsSealed (states : List State) (i now : ℕ) (published : State) (count : ℕ) : Type 0 where
  pub state : State
  pub at : slice_get states i ≡ Some state
  pub published_is : published ≡ purged state now
  pub expired : count ≡ count_by (λ e. not (live e now)) state.elements
  pub few : count < 2 ^ 32
