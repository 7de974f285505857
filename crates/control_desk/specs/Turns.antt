-- What contracts see of a control thread at a desk, and what a transaction that it submits does.
use Rattle.std.specs.Prelude.{◌≡◌, ◌+◌, ◌<◌, ◌≤◌, ◌++◌, ℕ, Bool, List, [], ◌∷◌, length, slice_get, Some}
use Rattle.atomic_table.specs.Seated.{TableId}
use Rattle.history_laws.specs.Histories.{StartsWith}
use Rattle.set_model.specs.declared.report.Event.{Event}
use Rattle.set_model.specs.declared.script.SetDecl.{SetDecl}
use Rattle.set_model.specs.declared.script.Step.{Step}
use Rattle.set_model.specs.Control.{Generation}
use Rattle.control_desk.specs.declared.entry.Entry.{Entry}
use Rattle.control_desk.specs.Woven.{HasSeen, entries_of}

-- A control thread. It has its desk, the declared sets, the number of control threads, and its own
-- number. It has the generations before the desk's log, and the log as far as it has seen it. It may
-- still submit so many transactions.
pub record Seated : Type 0 where
  pub of : TableId
  pub schema : List SetDecl
  pub threads : ℕ
  pub number : ℕ
  pub base : List Generation
  pub seen : List Entry
  pub left : ℕ

-- After a turn a control thread has seen the same log as before, or more of it. All else stays, except
-- the number of transactions left.
pub record HadTurn (old new : Seated) : Type 0 where
  pub sees_more : StartsWith new.seen old.seen
  pub same : new ≡ record old { seen = new.seen; left = new.left }

-- A transaction was logged after everything that was logged at its turn. No generation had been
-- committed that the control thread hadn't seen.
pub record IsLogged (steps : List Step) (keep_going : Bool) (old new : Seated) (end : Event) : Type 0 where
  pub turn : List Entry
  pub refused : List Event
  pub logged : new.seen ≡ turn ++ record { clerk = old.number; steps = steps; keep_going = keep_going; refused = refused; end = end } ∷ []
  pub begins : StartsWith turn old.seen
  pub own : entries_of old.number turn ≡ entries_of old.number old.seen
  pub fresh : (had now : ℕ) → HasSeen old.base old.seen had → HasSeen old.base turn now → now ≤ had
  pub left : new.left + 1 ≡ old.left

-- Nothing was logged for a control thread.
pub record IsUnlogged (old new : Seated) : Type 0 where
  pub own : entries_of old.number new.seen ≡ entries_of old.number old.seen
  pub left : new.left ≡ old.left

-- At its turn, the last generation had a greater number than the last one that the control thread had
-- seen.
pub record IsStale (newer : ℕ) (old new : Seated) : Type 0 where
  pub newer_is : HasSeen old.base new.seen newer
  pub moved_on : (had : ℕ) → HasSeen old.base old.seen had → had < newer

-- a control thread that has had no turn
abbrev pub newcomer : TableId → List SetDecl → List Generation → ℕ → ℕ → ℕ → Seated
newcomer of schema base threads number left = record { of = of; schema = schema; threads = threads; number = number; base = base; seen = []; left = left }

-- A desk was opened after these generations. Its control threads are numbered from 1, and each has the
-- same number of transactions left.
pub record IsOpened (of : TableId) (schema : List SetDecl) (base : List Generation) (threads left : ℕ) (clerks : List Seated) : Type 0 where
  pub size : length clerks ≡ threads
  pub each : (place : ℕ) (c : Seated) → slice_get clerks place ≡ Some c → c ≡ newcomer of schema base threads (place + 1) left

-- These are all control threads of one desk, in their order, and none has had a turn.
pub record AreAll (of : TableId) (schema : List SetDecl) (base : List Generation) (clerks : List Seated) : Type 0 where
  pub each : (place : ℕ) (c : Seated) → slice_get clerks place ≡ Some c → c ≡ newcomer of schema base (length clerks) (place + 1) c.left
