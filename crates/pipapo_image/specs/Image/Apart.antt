-- How changes keep the live elements of a disjoint set apart.
use Rattle.std.specs.Prelude.{◌≡◌, ℕ, ◌≤◌, Bool, List, Option, Some}
use Rattle.set_model.specs.declared.kind.Kind.{Kind}
use Rattle.set_model.specs.declared.kind.Interval.{Interval}
use Rattle.set_model.specs.declared.element.NewElement.{NewElement}
use Rattle.set_model.specs.SetState.{State, empty_set, add, removed, purged, cleared}
use Rattle.set_model.specs.Apart.{IsApart}

-- The moments at which the live elements of a disjoint set share no key. An empty set keeps them
-- apart at each moment. If they are apart at a moment, they are apart at each later one.
--
-- If they are apart at a moment no later than an addition, the addition keeps them apart from its
-- own moment on. A renewal is an addition, too. Calls that remove elements keep them apart at each
-- moment.
pub record KeepsApart : Type 0 where
  pub empty : (kinds : List Kind) (size : Option ℕ) (disjoint : Bool) (now : ℕ) → IsApart (empty_set kinds size disjoint) now
  pub later : (s : State) (m now : ℕ) → m ≤ now → IsApart s m → IsApart s now
  pub added : (s : State) (e : NewElement) (m now : ℕ) → m ≤ now → IsApart s m → IsApart (add s e now).1 now
  pub removed : (s left : State) (parts : List Interval) (now id m : ℕ) → removed s parts now ≡ Some (id, left) → IsApart s m → IsApart left m
  pub purged : (s : State) (now m : ℕ) → IsApart s m → IsApart (purged s now) m
  pub cleared : (s : State) (now : ℕ) → IsApart (cleared s) now
