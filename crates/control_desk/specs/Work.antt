-- What one control thread does with its section, and what all of them do.
use Rattle.std.specs.Prelude.{◌≡◌, ◌+◌, ◌<◌, ◌≤◌, ◌++◌, ◌-◌, ℕ, Bool, cond, List, [], ◌∷◌, All, Some, slice_get, take, drop, if◌then◌else◌}
use Rattle.std.specs.List.{sum_by}
use Rattle.history_laws.specs.Histories.{EndsWith}
use Rattle.set_model.specs.declared.report.Event.{Event}
use Rattle.set_model.specs.declared.script.Step.{Step}
use Rattle.set_model.specs.Control.{Generation}
use Rattle.set_model.specs.Runnable.{EndsClosed, IsRunnableStep, opens}
use Rattle.gen_publish.specs.Publish.{Steering, Grown}
use Rattle.control_desk.specs.declared.entry.Entry.{Entry}
use Rattle.control_desk.specs.Books.{IsClosed}
use Rattle.control_desk.specs.Woven.{IsTransaction, IsWoven, Replays, entries_of, steps_of}
use Rattle.control_desk.specs.Turns.{Seated}

-- how many transactions end among these steps
abbrev pub transactions : List Step → ℕ
transactions steps = sum_by (λ s. cond (opens (Some s)) 0 1) steps

-- A control thread has logged one transaction.
pub record HasSubmitted (steps : List Step) (keep_going : Bool) (old new : Seated) : Type 0 where
  pub refused : List Event
  pub end : Event
  pub own : entries_of old.number new.seen ≡ entries_of old.number old.seen ++ record { clerk = old.number; steps = steps; keep_going = keep_going; refused = refused; end = end } ∷ []
  pub left : new.left + 1 ≡ old.left
  pub same : new ≡ record old { seen = new.seen; left = new.left }

-- An entry is a transaction in this mode.
abbrev pub IsOne : Bool → Entry → Type 0
IsOne keep_going e = IsTransaction e.steps × (e.keep_going ≡ keep_going)

-- the steps of the open transaction after one more step
abbrev pub pending_then : List Step → Step → List Step
pending_then before step = if opens (Some step) then before ++ step ∷ [] else []

-- One more step is logged or open.
pub record HasGone (step : Step) (keep_going : Bool) (old new : Seated) (before behind : List Step) : Type 0 where
  pub steps : steps_of old.number new.seen ++ behind ≡ (steps_of old.number old.seen ++ before) ++ step ∷ []
  pub pending : behind ≡ pending_then before step
  pub ones : All (IsOne keep_going) (entries_of old.number old.seen) → All (IsOne keep_going) (entries_of old.number new.seen)
  pub left : new.left + transactions (step ∷ []) ≡ old.left
  pub same : new ≡ record old { seen = new.seen; left = new.left }

-- Step i of a section is logged or open. The open transaction began with step `from`, and now begins with
-- step `next`.
pub record HasGoneOn (section : List Step) (i from : ℕ) (keep_going : Bool) (old new : Seated) (next : ℕ) : Type 0 where
  pub within : next ≤ i + 1
  pub gone : (step : Step) → slice_get section i ≡ Some step → HasGone step keep_going old new (drop from (take i section)) (drop next (take (i + 1) section))

-- A control thread has done its section: its entries of the log are the section's transactions, in their order.
pub record HasDone (steps : List Step) (keep_going : Bool) (old new : Seated) : Type 0 where
  pub whole : steps_of old.number new.seen ≡ steps
  pub ones : All (IsOne keep_going) (entries_of old.number new.seen)
  pub same : new ≡ record old { seen = new.seen; left = new.left }

-- A control thread may do its section of these. The section consists of whole transactions that fit the
-- declared sets, and so many may still be submitted.
pub record MayDoSection (sections : List (List Step)) (c : Seated) : Type 0 where
  pub steps : List Step
  pub numbered : 0 < c.number
  pub section : slice_get sections (c.number - 1) ≡ Some steps
  pub fits : All (IsRunnableStep c.schema) steps
  pub closed : EndsClosed steps
  pub enough : transactions steps ≤ c.left
  pub newcomer : c.seen ≡ []

-- it has done its section of these
abbrev pub HasDoneOf : List (List Step) → Bool → Seated → Seated → Type 0
HasDoneOf sections keep_going old new = (steps : List Step) → slice_get sections (old.number - 1) ≡ Some steps → HasDone steps keep_going old new

-- Two control threads are at one desk.
pub record SharesDesk (a b : Seated) : Type 0 where
  pub of_is : b.of ≡ a.of
  pub base_is : b.base ≡ a.base
  pub threads_is : b.threads ≡ a.threads

-- what a control thread has seen of the log, by its number
abbrev pub kept_by : Seated → ℕ × List Entry
kept_by c = (c.number, c.seen)

-- The control threads of one desk have ended. The log is whole, and replays from the generations before
-- it. It has each thread's entries as that thread has seen them. No change is open.
pub record IsEnd (first : Seated) (clerks : List Seated) (control : Steering) (log : List Entry) : Type 0 where
  pub replays : Replays first.base control.committed log
  pub closed : IsClosed control
  pub grown : Grown control.schema 0 control.committed
  pub last : EndsWith control.committed control.work.base
  pub named : All (λ e. (0 < e.clerk) × (e.clerk ≤ first.threads)) log
  pub own : All (λ c. entries_of c.number log ≡ entries_of c.number c.seen) clerks

-- A run of all control threads. The log is woven of their sections, and replays from the generations
-- before it to the committed ones. Each entry is in this mode, and no change is open.
pub record IsRun (sections : List (List Step)) (keep_going : Bool) (base : List Generation) (control : Steering) (log : List Entry) : Type 0 where
  pub woven : IsWoven sections log
  pub replays : Replays base control.committed log
  pub modes : All (λ e. e.keep_going ≡ keep_going) log
  pub closed : IsClosed control
  pub grown : Grown control.schema 0 control.committed
  pub last : EndsWith control.committed control.work.base
