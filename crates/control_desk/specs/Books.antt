-- What contracts see of a control with its log, and what a transaction does to it.
use Rattle.std.specs.Prelude.{◌≡◌, ◌<◌, ◌≤◌, ◌++◌, ℕ, Bool, false, List, [], ◌∷◌, take, fold, map, length}
use Rattle.history_laws.specs.Histories.{EndsWith}
use Rattle.set_model.specs.declared.report.Event.{Event}
use Rattle.set_model.specs.declared.script.Step.{Step}
use Rattle.set_model.specs.Control.{Generation, mode_of, section}
use Rattle.set_space.specs.Open.{opened}
use Rattle.gen_publish.specs.Publish.{Steering}
use Rattle.packet_pool.specs.Running.{run, GoesOn}
use Rattle.control_desk.specs.declared.entry.Entry.{Entry}
use Rattle.control_desk.specs.Woven.{at_rest, after_entry, tellings, said}

-- A control, the log of what was submitted to it, and how many generations were committed before the
-- log's first entry.
pub record Booked : Type 0 where
  pub control : Steering
  pub log : List Entry
  pub from : ℕ

-- A control has no open change.
abbrev pub IsClosed : Steering → Type 0
IsClosed s = s.work ≡ opened s.work.base

-- The control is in the state to which its log leads from the first so many generations, and no change
-- is open.
pub record StandsByLog (s : Steering) (log : List Entry) (from : ℕ) : Type 0 where
  pub closed : IsClosed s
  pub some : 0 < from
  pub within : from ≤ length s.committed
  pub first : Generation
  pub begins : EndsWith (take from s.committed) first
  pub stands : fold after_entry (at_rest (take from s.committed) first) log ≡ at_rest s.committed s.work.base
  pub tells : tellings (at_rest (take from s.committed) first) log ≡ map said log

-- A transaction was done, and logged after the others.
pub record IsDone (clerk : ℕ) (steps : List Step) (keep_going : Bool) (old new : Steering) (before behind : List Entry) (end : Event) : Type 0 where
  pub refused : List Event
  pub logged : behind ≡ before ++ record { clerk = clerk; steps = steps; keep_going = keep_going; refused = refused; end = end } ∷ []
  pub goes_on : GoesOn (λ c. section (mode_of keep_going) c steps) (run old false []) (run new false (refused ++ end ∷ []))
  pub closed : IsClosed new

-- A transaction was applied. The log has one more entry: of this control thread, with these steps, this
-- mode and this end. The committed generations are those that the steps give. All else is as before.
pub record IsApplied (clerk : ℕ) (steps : List Step) (keep_going : Bool) (old new : Booked) (end : Event) : Type 0 where
  pub refused : List Event
  pub logged : new.log ≡ old.log ++ record { clerk = clerk; steps = steps; keep_going = keep_going; refused = refused; end = end } ∷ []
  pub committed : new.control.committed ≡ (section (mode_of keep_going) (at_rest old.control.committed old.control.work.base) steps).committed
  pub from_is : new.from ≡ old.from
  pub base_is : take new.from new.control.committed ≡ take old.from old.control.committed
  pub of_is : new.control.of ≡ old.control.of
  pub schema_is : new.control.schema ≡ old.control.schema
  pub readers_is : new.control.readers ≡ old.control.readers
