-- How a control and what it has reported correspond to the definition's control.
use Rattle.std.specs.Prelude.{◌≡◌, ◌+◌, ◌^◌, ◌<◌, ◌≤◌, ◌⊎◌, ℕ, Bool, true, false, List, [], ◌++◌, take, length, Option, count_by}
use Rattle.set_model.specs.declared.report.Event.{Event}
use Rattle.set_model.specs.declared.report.Why.{Why}
use Rattle.set_model.specs.declared.script.Step.{Step}
use Rattle.set_model.specs.declared.script.Step.TheVariants.{Change, Flush, Commit, Abort}
use Rattle.set_model.specs.SetState.{State}
use Rattle.set_model.specs.Control.{Control, mode_of, section}
use Rattle.gen_publish.specs.Publish.{Steering}

-- a control, whether its open transaction has failed, and what it has reported
pub record Run : Type 0 where
  pub control : Steering
  pub failed : Bool
  pub events : List Event

abbrev pub run : Steering → Bool → List Event → Run
run control failed events = record { control = control; failed = failed; events = events }

-- The result of a change of a set: this answer, and this set.
pub record HasCome (expected : Option Why × State) (why : Option Why) (new : State) : Type 0 where
  pub answer : why ≡ expected.0
  pub leaves : new ≡ expected.1

-- It has the same state as the definition's control. After what was reported before, this was reported.
pub record StandsAt (before : List Event) (c : Control) (r : Run) : Type 0 where
  pub committed : c.committed ≡ r.control.committed
  pub last : c.last ≡ r.control.work.base
  pub sets : c.sets ≡ r.control.work.sets
  pub failed : c.failed ≡ r.failed
  pub told : c.events ≡ before ++ r.events

-- It goes on as the definition's control does: if both agreed before, they agree after it.
pub record GoesOn (next : Control → Control) (old new : Run) : Type 0 where
  pub of_is : new.control.of ≡ old.control.of
  pub schema_is : new.control.schema ≡ old.control.schema
  pub readers_is : new.control.readers ≡ old.control.readers
  pub stands : (before : List Event) (c : Control) → StandsAt before c old → StandsAt before (next c) new

-- The steps were run, and reported these events.
pub record Ran (keep_going : Bool) (steps : List Step) (old new : Steering) (events : List Event) : Type 0 where
  pub failed : Bool
  pub goes_on : GoesOn (λ c. section (mode_of keep_going) c steps) (run old false []) (run new failed events)

-- the definition's control in the state of this one
abbrev pub control_of : Steering → Control
control_of s = record { committed = s.committed; last = s.work.base; sets = s.work.sets; failed = false; events = [] }

-- A step is a commit. No other step makes a generation.
abbrev pub is_commit : Step → Bool
is_commit (Change line set verb element now) = false
is_commit (Flush line set now) = false
is_commit (Commit now) = true
is_commit Abort = false

-- how many of the steps are commits
abbrev pub commits : List Step → ℕ
commits steps = count_by is_commit steps

-- There are enough numbers below 2 ^ 63 for one generation a commit.
abbrev pub HasNumbers : Steering → List Step → Type 0
HasNumbers s steps = s.work.base.number + commits steps < 2 ^ 63

-- The control is of the same start, and has the same declared sets and as many readers.
abbrev pub IsSameStart : Steering → Steering → Type 0
IsSameStart old new = (new.of ≡ old.of) × (new.schema ≡ old.schema) × (new.readers ≡ old.readers)

-- If a step ran out of memory, it had committed nothing, or what the definition's control commits.
abbrev pub Breaks : (Control → Control) → Run → Steering → Type 0
Breaks next old new = (new.committed ≡ old.control.committed) ⊎ ((before : List Event) (c : Control) → StandsAt before c old → (next c).committed ≡ new.committed)

-- If the steps ran out of memory, the committed list is the list after some first part of them.
pub record HasBroken (keep_going : Bool) (steps : List Step) (old new : Steering) : Type 0 where
  pub done : ℕ
  pub some_steps : done ≤ length steps
  pub committed : new.committed ≡ (section (mode_of keep_going) (control_of old) (take done steps)).committed
