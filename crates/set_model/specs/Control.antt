-- What a script does: generations, transactions and refusals. As in nft(8), a file is applied in
-- whole transactions.
use Rattle.std.specs.Prelude.{ℕ, ◌+◌, Bool, true, false, List, [], ◌∷◌, ◌++◌, map, if◌then◌else◌, not, Option, Some, None, slice_get, slice_set, fold, count_by}
use Rattle.std.specs.List.{sum_by as total_by, list_any}
use Rattle.set_model.specs.declared.element.NewElement.{NewElement}
use Rattle.set_model.specs.declared.script.Step.{Step}
use Rattle.set_model.specs.declared.script.Step.TheVariants.{Change, Flush, Commit, Abort}
use Rattle.set_model.specs.declared.script.Verb.{Verb}
use Rattle.set_model.specs.declared.script.Verb.TheVariants as verbs
use Rattle.set_model.specs.declared.report.Why.{Why}
use Rattle.set_model.specs.declared.report.Why.TheVariants as causes
use Rattle.set_model.specs.declared.report.Event.{Event}
use Rattle.set_model.specs.declared.report.Event.TheVariants as events
use Rattle.set_model.specs.declared.script.SetDecl.{SetDecl}
use Rattle.set_model.specs.declared.script.Script.{Script}
use Rattle.set_model.specs.Expiry.{live}
use Rattle.set_model.specs.SetState.{State, Addition, New, Already, Renewed, Refused, add, removed, purged, cleared, empty_set}

-- A committed version of all sets, and its number.
pub record Generation : Type 0 where
  pub number : ℕ
  pub sets : List State

-- What a refused change does to its transaction. The transaction fails, or skips the change.
pub data Mode : Type 0 where
  Strict : Mode
  KeepGoing : Mode

-- the mode of a run, by whether it keeps going
abbrev pub mode_of : Bool → Mode
mode_of true = KeepGoing
mode_of false = Strict

-- The generations so far, and the last of them again. The sets with the open changes. Whether the
-- open transaction has failed. The events.
pub record Control : Type 0 where
  pub committed : List Generation
  pub last : Generation
  pub sets : List State
  pub failed : Bool
  pub events : List Event

-- Generation 0: every declared set, empty.
abbrev pub first_generation : List SetDecl → Generation
first_generation schema = record { number = 0; sets = map (λ d. empty_set d.kinds d.size d.disjoint) schema }

abbrev pub start : List SetDecl → Control
start schema = let g = first_generation schema in record { committed = g ∷ []; last = g; sets = g.sets; failed = false; events = [] }

abbrev pub told : Control → Event → Control
told c event = record c { events = c.events ++ event ∷ [] }

-- A refused change makes an event and leaves the open sets. In strict mode the transaction fails.
abbrev pub refused : Mode → Control → ℕ → ℕ → Why → Control
refused Strict c line set why = record (told c (events.Refused line set why)) { failed = true }
refused KeepGoing c line set why = told c (events.Refused line set why)

-- what the verb `add` makes of an addition: a refusal, or the set that it leaves
abbrev pub as_added : Addition × State → Option Why × State
as_added (Refused why, s) = (Some why, s)
as_added (New id, s) = (None, s)
as_added (Already id, s) = (None, s)
as_added (Renewed id, s) = (None, s)

-- what `create` makes of an addition to the set s; it refuses elements that exist
abbrev pub as_created : State → Addition × State → Option Why × State
as_created s (Refused why, t) = (Some why, s)
as_created s (New id, t) = (None, t)
as_created s (Already id, t) = (Some (causes.Exists id), s)
as_created s (Renewed id, t) = (Some (causes.Exists id), s)

-- what `delete` makes of a removal from the set s
abbrev pub as_deleted : State → Option (ℕ × State) → Option Why × State
as_deleted s None = (Some causes.Missing, s)
as_deleted s (Some found) = (None, found.1)

-- what `destroy` makes of a removal from the set s; it accepts a missing element
abbrev pub as_destroyed : State → Option (ℕ × State) → Option Why × State
as_destroyed s None = (None, s)
as_destroyed s (Some found) = (None, found.1)

-- The answer to a change of one set: the cause of the refusal, if any, and the set that it leaves.
abbrev pub changed_set : Verb → State → NewElement → ℕ → Option Why × State
changed_set verbs.Add s e now = as_added (add s e now)
changed_set verbs.Create s e now = as_created s (add s e now)
changed_set verbs.Delete s e now = as_deleted s (removed s e.parts now)
changed_set verbs.Destroy s e now = as_destroyed s (removed s e.parts now)

abbrev pub with_set : Control → ℕ → State → Control
with_set c set s = record c { sets = slice_set c.sets set s }

-- the control after the answer to a change of the set at a place
abbrev pub answered : Mode → Control → ℕ → ℕ → Option Why × State → Control
answered mode c line set (Some why, s) = refused mode c line set why
answered mode c line set (None, s) = with_set c set s

-- a change of a set that is there
abbrev pub changed : Mode → Control → ℕ → ℕ → Verb → NewElement → ℕ → Option State → Control
changed mode c line set verb e now None = c
changed mode c line set verb e now (Some s) = answered mode c line set (changed_set verb s e now)

abbrev pub flushed : Control → ℕ → Option State → Control
flushed c set None = c
flushed c set (Some s) = with_set c set (cleared s)

-- how many elements of all sets are expired at a moment
abbrev pub expired_count : List State → ℕ → ℕ
expired_count sets now = total_by (λ s. count_by (λ e. not (live e now)) s.elements) sets

-- the next generation: the open sets, purged
abbrev pub next_generation : Control → ℕ → Generation
next_generation c now = record { number = c.last.number + 1; sets = map (λ s. purged s now) c.sets }

-- A commit publishes the open sets, purged, as the next generation.
abbrev pub committed : Control → ℕ → Control
committed c now =
    let g = next_generation c now in
    record (told c (events.Committed g.number (expired_count c.sets now))) { committed = c.committed ++ g ∷ []; last = g; sets = g.sets }

-- The open changes are dropped: the open sets are those of the last generation, and nothing has
-- failed.
abbrev pub rewound : Control → Event → Control
rewound c event = record (told c event) { sets = c.last.sets; failed = false }

-- One step of a script. A failed transaction does nothing until its end. Its end drops it.
abbrev pub step : Mode → Control → Step → Control
step mode c (Change line set verb e now) = if c.failed then c else changed mode c line set verb e now (slice_get c.sets set)
step mode c (Flush line set now) = if c.failed then c else flushed c set (slice_get c.sets set)
step mode c (Commit now) = if c.failed then rewound c (events.Dropped c.last.number) else committed c now
step mode c Abort = rewound c (events.Aborted c.last.number)

-- A section: its steps, one after another.
abbrev pub section : Mode → Control → List Step → Control
section mode c steps = fold (step mode) c steps

-- Sections, one after another, from generation 0 on.
abbrev pub history : Mode → List SetDecl → List (List Step) → Control
history mode schema sections = fold (section mode) (start schema) sections

-- An event is the refusal of a change.
abbrev pub is_refusal : Event → Bool
is_refusal (events.Refused line set why) = true
is_refusal (events.Committed generation purged) = false
is_refusal (events.Aborted generation) = false
is_refusal (events.Dropped generation) = false

-- A change of the script is refused.
abbrev pub has_refusal : Mode → Script → Bool
has_refusal mode script = list_any is_refusal (history mode script.schema script.sections).events
