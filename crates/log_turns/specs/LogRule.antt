-- The rule of the table: what holds between any two steps, whatever the threads do. In words:
-- The seats: each control thread's number that was given is in one seat, its own or one that gathered it. A number
-- that wasn't given is in no seat. One seat at most gives numbers. Only seats with a number have a ticket, each at
-- most one.
-- The tickets: those that are out are exactly the numbers from the served one to the last before the next one, modulo
-- 2 ^ 64. Each is one seat's.
-- The value: it is in the table, or the seat whose ticket is served has it. That seat notes the value as it took it.
-- The logs: each seat's log is a front of the value's log, and so is each log that a gatherer keeps. A number's
-- entries are the same in the value's log and in the log that is kept for it. Each entry has a number that was given.
-- The base: the states before the log are those that each control thread began with.
-- The numbers: the value's number, the states that all control threads have left, and those of the control threads
-- that weren't made yet. Together they are at most the bound.
use Rattle.std.specs.Prelude.{◌≡◌, ◌≢◌, ℕ, ◌+◌, ◌-◌, ◌*◌, ◌<◌, ◌≤◌, ◌==◌, cond, List, [], ◌∷◌, All, filter, length, Option, Some, None}
use Rattle.std.specs.List.{sum_by}
use mathlib.Core.Option.{some}
use lib.ListN.{get_elem?}
use Rattle.atomic_table.specs.Table.{State}
use Rattle.atomic_table.specs.Seated.{TableId}
use Rattle.history_laws.specs.Histories.{StartsWith}
use Rattle.ticket_line.specs.Tickets.{InLine}
use Rattle.log_turns.specs.declared.SeatView.{SeatView}
use Rattle.log_turns.specs.declared.Role.{Role}
use Rattle.log_turns.specs.declared.Role.TheVariants.{Idle, Opener, Clerk, Gatherer}

abbrev pub IsOpener : Role → Type 0
IsOpener Idle = ⊥
IsOpener (Opener given) = Unit {0}
IsOpener (Clerk c) = ⊥
IsOpener Gatherer = ⊥

-- it is a control thread's
abbrev pub IsClerk : Role → Type 0
IsClerk role = (c : ℕ) × (role ≡ Clerk c)

-- it is a control thread's, or is for some that are done
abbrev pub HasTurns : Role → Type 0
HasTurns Idle = ⊥
HasTurns (Opener given) = ⊥
HasTurns (Clerk c) = Unit {0}
HasTurns Gatherer = Unit {0}

-- two words, and one entry
abbrev pub IsSized : TableId → Type 0
IsSized z = (z.words ≡ 2) × (z.slots ≡ 1)

-- the greatest number that a value may come to
abbrev pub most : ℕ
most = 9223372036854775807

-- what a seat may still add
abbrev pub left_at : Role → ℕ → ℕ
left_at Idle left = 0
left_at (Opener given) left = 0
left_at (Clerk c) left = left
left_at Gatherer left = left

-- the logs that a seat keeps, each by its control thread's number: a control thread's is what it has seen
abbrev pub kept_at : {E : Type 0} → Role → List E → List (ℕ × List E) → List (ℕ × List E)
kept_at Idle seen kept = []
kept_at (Opener given) seen kept = []
kept_at (Clerk c) seen kept = (c, seen) ∷ []
kept_at Gatherer seen kept = kept

module _ {B E G : Type 0} where
  abbrev pub stage_of : SeatView B E G → ℕ
  stage_of d = d.stage

  abbrev pub ticket_of : SeatView B E G → ℕ
  ticket_of d = d.ticket

  abbrev pub left_of : SeatView B E G → ℕ
  left_of d = left_at d.role d.left

  abbrev pub kept_of : SeatView B E G → List (ℕ × List E)
  kept_of d = kept_at d.role d.seen d.kept

  -- how many numbers of control threads it has
  abbrev pub seats_of : SeatView B E G → ℕ
  seats_of d = length (kept_of d)

  -- how often it has this number
  abbrev pub times_of : ℕ → SeatView B E G → ℕ
  times_of c d = sum_by (λ p. cond (p.0 == c) 1 0) (kept_of d)

-- A value has a log, the states before the log, and a number. Each entry of the log has a control thread's number.
-- Each state more raises the number by one.
module _ {B E G : Type 0} (log : B → List E) (base : B → List G) (number : B → ℕ) (clerk : E → ℕ) where
  -- the entries of a control thread
  abbrev pub of_clerk : ℕ → List E → List E
  of_clerk c entries = filter (λ e. clerk e == c) entries

  -- A log is kept for a control thread: it is a front of the value's log, and has all of the thread's entries.
  abbrev pub Keeps : ℕ → B → ℕ × List E → Type 0
  Keeps given value p = (0 < p.0) × (p.0 ≤ given) × StartsWith (log value) p.1 × (of_clerk p.0 (log value) ≡ of_clerk p.0 p.1)

  -- what holds of a seat's view by its role
  abbrev pub Plays : ℕ → ℕ → ℕ → B → SeatView B E G → Role → Type 0
  Plays each n given value d Idle = d.stage < 2
  Plays each n given value d (Opener g) = (d.stage < 2) × (d.threads ≡ n) × (g ≡ given) × (d.base ≡ base value) × (d.left ≡ each)
  Plays each n given value d (Clerk c) = (d.threads ≡ n) × (d.base ≡ base value)
  Plays each n given value d Gatherer = (d.threads ≡ n) × (d.base ≡ base value) × (0 < length d.kept)

  abbrev pub Sits : ℕ → ℕ → ℕ → B → SeatView B E G → Type 0
  Sits each n given value d = StartsWith (log value) d.seen × (d.stage ≡ 3 → d.took ≡ Some value) × Plays each n given value d d.role × All (Keeps given value) (kept_of d)

  abbrev pub IsNamed : ℕ → E → Type 0
  IsNamed given e = (0 < clerk e) × (clerk e ≤ given)

  pub record Kept (each bound : ℕ) (s : State (Option B) (SeatView B E G)) : Type 0 where
    pub line : List ℕ
    pub n : ℕ
    pub given : ℕ
    pub value : B
    pub few : (given ≤ n) × (n ≤ 16)
    pub deep : length s.homes ≡ 1
    pub queue : InLine stage_of ticket_of s.words s.views line
    pub home : ((j : ℕ) (d : SeatView B E G) → get_elem? s.views j ≡ some d → d.stage ≢ 3) → get_elem? s.homes 0 ≡ some (some (Some value))
    pub one_opener : (i j : ℕ) (d e : SeatView B E G) → get_elem? s.views i ≡ some d → get_elem? s.views j ≡ some e → IsOpener d.role → IsOpener e.role → i ≡ j
    pub one_each : (c : ℕ) → sum_by (times_of c) s.views ≤ 1
    pub clerks : sum_by seats_of s.views ≡ given
    pub named : All (IsNamed given) (log value)
    pub numbers : number value + sum_by left_of s.views + each * (n - given) ≤ bound
    pub each_seat : (j : ℕ) (d : SeatView B E G) → get_elem? s.views j ≡ some d → Sits each n given value d

module _ {B E G : Type 0} where
  -- the opener's view at the start: each of so many control threads is to have so many states left
  abbrev pub opening_view : ℕ → ℕ → List G → SeatView B E G
  opening_view each n base = record { role = Opener 0; threads = n; stage = 1; ticket = 0; seen = []; base = base; left = each; took = None; kept = [] }
