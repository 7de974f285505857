-- The laws of the rule: what holds between any two steps, and that each kind of step keeps it.
use Rattle.std.specs.Prelude.{◌≡◌, ℕ, ◌+◌, ◌*◌, ◌%◌, ◌^◌, ◌<◌, ◌≤◌, List, [], ◌∷◌, All, length, Option, Some}
use Rattle.std.specs.List.{sum_by}
use mathlib.Core.Option.{none, some}
use lib.ListN.{get_elem?}
use Rattle.atomic_table.specs.Table.{State, Me, step, opening, Allows, Splits, Joins}
use Rattle.history_laws.specs.Histories.{StartsWith}
use Rattle.ticket_line.specs.Tickets.{InLine}
use Rattle.log_turns.specs.declared.SeatView.{SeatView}
use Rattle.log_turns.specs.declared.Role.TheVariants.{Opener, Clerk}
use Rattle.log_turns.specs.LogRule.{stage_of, ticket_of, seats_of, times_of, kept_of, HasTurns, Keeps, IsNamed, Kept, opening_view}
use Rattle.log_turns.specs.LogSteps.{given_one, next_clerk, gathered, spent_view, drew, looked, ended_turn, MayGive}

-- For any value with a log, states before the log, a number, and entries that each have a control thread's number.
module _ (B E G : Type 0) where
  -- The tickets that are out are those from the served one to the next. There are no more of them than control
  -- threads.
  abbrev pub Queues : Type 0
  Queues = (log : B → List E) (base : B → List G) (number : B → ℕ) (clerk : E → ℕ) (each bound : ℕ) (s : State (Option B) (SeatView B E G)) (k : Kept log base number clerk each bound s) → InLine stage_of ticket_of s.words s.views k.line × (length k.line ≤ 16)

  -- Each seat's log is a front of the value's log, and so is each log that the seat keeps. A control thread's entries
  -- are the same in the value's log and in the log that is kept for it. Each entry has the number of a control thread
  -- that was given. The seats have as many numbers as were given, none of them twice.
  abbrev pub Logs : Type 0
  Logs = (log : B → List E) (base : B → List G) (number : B → ℕ) (clerk : E → ℕ) (each bound : ℕ) (s : State (Option B) (SeatView B E G)) (k : Kept log base number clerk each bound s)
      → ((j : ℕ) (d : SeatView B E G) → get_elem? s.views j ≡ some d → StartsWith (log k.value) d.seen × All (Keeps log base number clerk k.given k.value) (kept_of d))
      × All (IsNamed log base number clerk k.given) (log k.value) × (sum_by seats_of s.views ≡ k.given) × ((c : ℕ) → sum_by (times_of c) s.views ≤ 1)

  -- A table at the start meets the rule, with a value that has logged nothing.
  abbrev pub Opens : Type 0
  Opens = (log : B → List E) (base : B → List G) (number : B → ℕ) (clerk : E → ℕ) (each bound n : ℕ) (v : B) → n ≤ 16 → log v ≡ [] → number v + each * n ≤ bound → Kept log base number clerk each bound (opening (0 ∷ 0 ∷ []) (Some v ∷ []) (opening_view each n (base v)))

  -- A seat with a number and no ticket adds 1 to word 0.
  abbrev pub DrawKeeps : Type 0
  DrawKeeps = (log : B → List E) (base : B → List G) (number : B → ℕ) (clerk : E → ℕ) (each bound slots id : ℕ) (me : Me (Option B) (SeatView B E G)) → HasTurns me.0.role → me.0.stage ≡ 1
      → Allows (Kept log base number clerk each bound) slots id me 0 (λ x. (x + 1) % 2 ^ 64) (drew (step slots 0 1 0 none) me)

  -- A seat with a ticket loads word 1.
  abbrev pub LookKeeps : Type 0
  LookKeeps = (log : B → List E) (base : B → List G) (number : B → ℕ) (clerk : E → ℕ) (each bound slots id : ℕ) (me : Me (Option B) (SeatView B E G)) → HasTurns me.0.role → me.0.stage ≡ 2
      → Allows (Kept log base number clerk each bound) slots id me 1 (λ x. x) (looked log base number clerk bound (step slots 1 0 0 none) me)

  -- The served seat returns a value with new entries of its own at the end of the log. It stores the next ticket in
  -- word 1.
  abbrev pub DoneKeeps : Type 0
  DoneKeeps = (log : B → List E) (base : B → List G) (number : B → ℕ) (clerk : E → ℕ) (each bound slots id : ℕ) (me : Me (Option B) (SeatView B E G)) (c new : ℕ) (v : B) → me.0.role ≡ Clerk c → me.0.stage ≡ 3 → me.1 ≡ (0, Some v) ∷ [] → MayGive log base number clerk c me.0 v → new ≡ (me.0.ticket + 1) % 18446744073709551616
      → Allows (Kept log base number clerk each bound) slots id me 1 (λ _. new) (λ _. ended_turn log base number clerk (step slots 1 new 0 none) me new)

  -- The opener's view is split, for a control thread that wasn't made yet.
  abbrev pub SplitKeeps : Type 0
  SplitKeeps = (log : B → List E) (base : B → List G) (number : B → ℕ) (clerk : E → ℕ) (each bound id : ℕ) (v : SeatView B E G) (g : ℕ) → v.role ≡ Opener g → g < v.threads → Splits (Kept log base number clerk each bound) id v (given_one v) (next_clerk v)

  -- A seat with a number takes in another's view, if neither has a ticket.
  abbrev pub JoinKeeps : Type 0
  JoinKeeps = (log : B → List E) (base : B → List G) (number : B → ℕ) (clerk : E → ℕ) (each bound id : ℕ) (v : SeatView B E G) (other : ℕ) (w : SeatView B E G) → HasTurns v.role → v.stage ≡ 1 → HasTurns w.role → w.stage ≡ 1 → Joins (Kept log base number clerk each bound) id v other w (gathered v w) spent_view
