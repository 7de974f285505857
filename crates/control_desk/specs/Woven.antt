-- The log of several control threads: the transactions of each thread in their order, woven into one
-- order. Replayed, it gives the committed generations. The definition knows one list and no turns.
use Rattle.std.specs.Prelude.{◌≡◌, ◌≤◌, ◌+◌, ◌==◌, ℕ, true, false, List, [], ◌∷◌, ◌++◌, All, Some, length, map, fold, filter, flat_map, slice_get}
use Rattle.history_laws.specs.Histories.{EndsWith}
use Rattle.set_model.specs.declared.report.Event.{Event}
use Rattle.set_model.specs.declared.script.Step.{Step}
use Rattle.set_model.specs.Control.{Control, Generation, mode_of, section}
use Rattle.set_model.specs.Runnable.{opens}
use Rattle.control_desk.specs.declared.entry.Entry.{Entry}

-- A transaction: changes and flushes, and then the commit or abort that ends it (nft(8) applies a file
-- as a whole).
pub record IsTransaction (steps : List Step) : Type 0 where
  pub changes : List Step
  pub end : Step
  pub whole : steps ≡ changes ++ end ∷ []
  pub opening : All (λ s. opens (Some s) ≡ true) changes
  pub closing : opens (Some end) ≡ false

-- the control after these generations, of which this is the last: no change is open, and nothing was
-- reported yet
abbrev pub at_rest : List Generation → Generation → Control
at_rest committed last = record { committed = committed; last = last; sets = last.sets; failed = false; events = [] }

-- the control after an entry's steps in its mode, with their events
abbrev pub entry_done : Control → Entry → Control
entry_done c e = section (mode_of e.keep_going) c e.steps

-- the control after an entry, with no events of the next one yet
abbrev pub after_entry : Control → Entry → Control
after_entry c e = record (entry_done c e) { events = [] }

-- the events of each entry of a log, done one after another
abbrev pub tellings : Control → List Entry → List (List Event)
tellings c [] = []
tellings c (e ∷ log) = (entry_done c e).events ∷ tellings (after_entry c e) log

-- the events that an entry names: its refusals, and then its end
abbrev pub said : Entry → List Event
said e = e.refused ++ e.end ∷ []

-- A log replays from the generations before it to the committed ones: its entries, done one after
-- another, commit these, and each entry names the events that it then has.
pub record Replays (base committed : List Generation) (log : List Entry) : Type 0 where
  pub last : Generation
  pub begins : EndsWith base last
  pub gives : (fold after_entry (at_rest base last) log).committed ≡ committed
  pub tells : tellings (at_rest base last) log ≡ map said log

-- The last generation after a log, from the generations before it, has this number.
pub record HasSeen (base : List Generation) (log : List Entry) (number : ℕ) : Type 0 where
  pub last : Generation
  pub begins : EndsWith base last
  pub reaches : (fold after_entry (at_rest base last) log).last.number ≡ number

-- one control thread's entries, in the order of the log
abbrev pub entries_of : ℕ → List Entry → List Entry
entries_of clerk log = filter (λ e. e.clerk == clerk) log

-- the steps of one control thread's entries, in the order of the log
abbrev pub steps_of : ℕ → List Entry → List Step
steps_of clerk log = flat_map (λ e. e.steps) (entries_of clerk log)

-- An entry is a transaction of one of so many control threads, which count from 1.
pub record IsOfOne (clerks : ℕ) (e : Entry) : Type 0 where
  pub transaction : IsTransaction e.steps
  pub from : 1 ≤ e.clerk
  pub to : e.clerk ≤ clerks

-- A log is woven of sections. Each entry is a transaction of one section's control thread. The steps of
-- each thread are those of its section, in their order, with none left out and none repeated.
pub record IsWoven (sections : List (List Step)) (log : List Entry) : Type 0 where
  pub each : All (IsOfOne (length sections)) log
  pub whole : (place : ℕ) (steps : List Step) → slice_get sections place ≡ Some steps → steps_of (place + 1) log ≡ steps
