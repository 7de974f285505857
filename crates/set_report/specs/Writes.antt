-- What a writer of text requires of events and sets.
use Rattle.std.specs.Prelude.{◌≡◌, ◌<◌, ℕ, List, length, slice_get, Some}
use Rattle.set_model.specs.declared.script.SetDecl.{SetDecl}
use Rattle.set_model.specs.declared.report.Event.{Event}
use Rattle.set_model.specs.declared.report.Event.TheVariants.{Refused, Committed, Aborted, Dropped}
use Rattle.set_model.specs.SetState.{State}

-- An event names one of so many sets, if it names a set.
abbrev pub NamesSet : ℕ → Event → Type 0
NamesSet sets (Refused line set why) = set < sets
NamesSet sets (Committed generation purged) = Unit {0}
NamesSet sets (Aborted generation) = Unit {0}
NamesSet sets (Dropped generation) = Unit {0}

-- A set has the kinds and the size that were declared.
pub record IsSetOf (d : SetDecl) (s : State) : Type 0 where
  pub kinds : s.kinds ≡ d.kinds
  pub size : s.size ≡ d.size

-- The sets are those of a schema: one for each declared set, in their order.
pub record AreSetsOf (schema : List SetDecl) (sets : List State) : Type 0 where
  pub one_each : length sets ≡ length schema
  pub each : (i : ℕ) (d : SetDecl) (s : State) → slice_get schema i ≡ Some d → slice_get sets i ≡ Some s → IsSetOf d s

-- The sets have the declared kinds: one for each declared set, in their order. A listing needs no more.
pub record HaveDeclaredKinds (schema : List SetDecl) (sets : List State) : Type 0 where
  pub one_each : length sets ≡ length schema
  pub each : (i : ℕ) (d : SetDecl) (s : State) → slice_get schema i ≡ Some d → slice_get sets i ≡ Some s → s.kinds ≡ d.kinds
