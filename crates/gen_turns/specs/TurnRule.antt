-- The rule of the table: what holds between any two steps, whatever the threads do. In words:
--
-- - The seats: one is the writer's. Each reader's number that was given is in one seat, and no
--   other number is. Only these seats have a ticket, each at most one.
-- - The tickets: those that are out are exactly the numbers from the served one up to the next one,
--   modulo 2 ^ 64. Each is in one seat.
-- - The vector: it is at home, or out with the seat whose ticket is served. At home, a reader's
--   place has a value of the last state that was published. It is empty only if the list of that
--   reader's last enter is the writer's whole list. Before a reader first enters, the first list
--   counts as the list of its last enter.
-- - The lists: each seat's list begins the writer's list, which is a chain. The list of a reader's
--   last enter begins the reader's list.
-- - The seat with the vector notes the writer's list, and what the vector held when the seat took
--   it, which is as at home.
use Rattle.std.specs.Prelude.{◌≡◌, ◌≢◌, ℕ, ◌+◌, ◌<◌, ◌≤◌, List, [], ◌∷◌, length, Option, Some, None}
use Rattle.std.specs.List.{sum_by}
use mathlib.Core.Option.{some}
use lib.ListN.{get_elem?}
use Rattle.std.specs.Global.{Vec}
use Rattle.atomic_table.specs.Table.{State}
use Rattle.history_laws.specs.Histories.{StartsWith, EndsWith, Chain}
use Rattle.ticket_line.specs.Tickets.{InLine}
use Rattle.gen_turns.specs.declared.board.SeatView.{SeatView}
use Rattle.gen_turns.specs.declared.board.Role.{Role}
use Rattle.gen_turns.specs.declared.board.Role.TheVariants.{Idle, Reader, Keeper}

-- what the table's entry holds
abbrev pub Entry : Type 0 → Type 0
Entry T = Option (Vec (Option T))

-- the seats that draw tickets
abbrev pub HasTurns : Role → Type 0
HasTurns Idle = ⊥
HasTurns (Reader r) = Unit {0}
HasTurns (Keeper q g) = Unit {0}

-- how many tickets a seat may have
abbrev pub turns_at : Role → ℕ
turns_at Idle = 0
turns_at (Reader r) = 1
turns_at (Keeper q g) = 1

-- a reader's seat has its number, which is below n, and the writer's has n
abbrev pub HasNumber : ℕ → ℕ → Role → Type 0
HasNumber n a Idle = ⊥
HasNumber n a (Reader r) = r ≡ a
HasNumber n a (Keeper q g) = n ≡ a

module _ {T X : Type 0} where
  abbrev pub stage_of : SeatView T X → ℕ
  stage_of d = d.stage

  abbrev pub ticket_of : SeatView T X → ℕ
  ticket_of d = d.ticket

  abbrev pub turns_of : SeatView T X → ℕ
  turns_of d = turns_at d.role

-- What holds of the list that a seat has seen, and of the list that it had seen at its last enter,
-- by its role. A reader's number was given. The writer has seen the whole list.
abbrev pub Plays : {X : Type 0} → ℕ → List X → List X → ℕ → (ℕ → List X) → List X → List X → Role → Type 0
Plays n first made given last seen entered Idle = Unit {0}
Plays n first made given last seen entered (Reader r) = (r < given) × (last r ≡ entered)
Plays n first made given last seen entered (Keeper q g) = (q ≡ n) × (g ≡ given) × (seen ≡ made) × (entered ≡ first)

module _ {T X : Type 0} (state : T → X) where
  -- a reader's place: a value of the last state, or nothing if the reader entered last with the
  -- whole list
  abbrev pub ShowsLast : List X → List X → Option T → Type 0
  ShowsLast made last (Some v) = EndsWith made (state v)
  ShowsLast made last None = last ≡ made

  -- the vector: such a place for each of n readers
  abbrev pub IsStocked : ℕ → List X → (ℕ → List X) → List (Option T) → Type 0
  IsStocked n made last ps = (length ps ≡ n) × ((r : ℕ) (p : Option T) → get_elem? ps r ≡ some p → ShowsLast made (last r) p)

  -- the values that are there have the last state of the list
  abbrev pub AreLast : List X → List (Option T) → Type 0
  AreLast made [] = Unit {0}
  AreLast made (Some v ∷ ps) = EndsWith made (state v) × AreLast made ps
  AreLast made (None ∷ ps) = AreLast made ps

  -- what holds of a seat's view: if it has the vector, it notes the whole list, and the vector as
  -- at home
  abbrev pub Sits : ℕ → List X → List X → ℕ → (ℕ → List X) → SeatView T X → Type 0
  Sits n first made given last d =
      StartsWith made d.seen × StartsWith made d.told × StartsWith d.seen d.entered × (1 < d.stage → HasTurns d.role) × (d.stage ≡ 3 → (d.whole ≡ made) × IsStocked n made last d.took) × Plays n first made given last d.seen d.entered d.role

  pub record Kept (follows : X → X → Type 0) (s : State (Entry T) (SeatView T X)) : Type 0 where
    pub line : List ℕ
    pub n : ℕ
    pub first : List X
    pub made : List X
    pub given : ℕ
    pub last : ℕ → List X
    pub few : (0 < n) × (n ≤ 16) × (given ≤ n)
    pub deep : length s.homes ≡ 1
    pub queue : InLine stage_of ticket_of s.words s.views line
    -- the vector is at home if nobody is served
    pub home : ((j : ℕ) (d : SeatView T X) → get_elem? s.views j ≡ some d → d.stage ≢ 3) → (v : Vec (Option T)) × (get_elem? s.homes 0 ≡ some (some (Some v))) × IsStocked n made last v.items
    pub chain : Chain follows made
    pub starts : StartsWith made first
    pub ungiven : (r : ℕ) → given ≤ r → r < n → last r ≡ first
    pub one_each : (a i j : ℕ) (d e : SeatView T X) → get_elem? s.views i ≡ some d → get_elem? s.views j ≡ some e → HasNumber n a d.role → HasNumber n a e.role → i ≡ j
    -- the seats of the readers that were made, and the writer's
    pub seats : sum_by turns_of s.views ≡ given + 1
    pub each_seat : (j : ℕ) (d : SeatView T X) → get_elem? s.views j ≡ some d → Sits n first made given last d

module _ {T X : Type 0} where
  abbrev pub seat_view : Role → List X → List X → SeatView T X
  seat_view role seen entered = record { role = role; stage = 1; ticket = 0; seen = seen; entered = entered; told = []; whole = []; took = [] }

  -- the view of a note
  abbrev pub listing : List X → SeatView T X
  listing seen = seat_view Idle seen []

  -- the writer's view at the start
  abbrev pub starting : ℕ → X → SeatView T X
  starting n x = seat_view (Keeper n 0) (x ∷ []) (x ∷ [])
