-- The open transaction: a base generation and the sets with the open changes. As in nft(8), a file
-- is applied in whole transactions.
use Rattle.std.specs.Prelude.{◌≡◌, ◌≤◌, ℕ, true, false, List, [], length, Some, None, slice_get, slice_set}
use Rattle.set_model.specs.declared.script.SetDecl.{SetDecl}
use Rattle.set_model.specs.declared.kind.Interval.{Interval}
use Rattle.set_model.specs.Key.{parts_fit}
use Rattle.set_model.specs.SetState.{State, removed}
use Rattle.set_model.specs.Control.{Generation, Control, next_generation}

-- A base generation, and the states of its sets with the open changes.
pub record Open : Type 0 where
  pub base : Generation
  pub sets : List State

-- no open change
abbrev pub opened : Generation → Open
opened g = record { base = g; sets = g.sets }

-- the work with another state of the set at a place
abbrev pub with_open_set : Open → ℕ → State → Open
with_open_set w set s = record w { sets = slice_set w.sets set s }

-- A set that can be built: 1 to 16 fields.
pub record CanBeBuilt (d : SetDecl) : Type 0 where
  pub some : 1 ≤ length d.kinds
  pub few : length d.kinds ≤ 16

-- The intervals fit the kinds of the set at a place.
abbrev pub FitsSet : Open → ℕ → List Interval → Type 0
FitsSet w set parts = (s : State) → slice_get w.sets set ≡ Some s → parts_fit s.kinds parts ≡ true

-- The set at a place has no live element with exactly these intervals.
abbrev pub Lacks : Open → ℕ → List Interval → ℕ → Type 0
Lacks w set parts now = (s : State) → slice_get w.sets set ≡ Some s → removed s parts now ≡ None

-- The set at a place has no element.
abbrev pub IsEmptyAt : Open → ℕ → Type 0
IsEmptyAt w set = (s : State) → slice_get w.sets set ≡ Some s → s.elements ≡ []

-- The set at a place changes from one state to another. Nothing else changes.
pub record IsChange (step : State → State → Type 0) (old : Open) (set : ℕ) (new : Open) : Type 0 where
  pub state : State
  pub left : State
  pub at : slice_get old.sets set ≡ Some state
  pub changed : step state left
  pub others : new ≡ with_open_set old set left

-- the control of a script at this work, without events
abbrev pub as_control : Open → Control
as_control w = record { committed = []; last = w.base; sets = w.sets; failed = false; events = [] }

-- the generation that a commit publishes
abbrev pub sealed : Open → ℕ → Generation
sealed w now = next_generation (as_control w) now
