-- The clauses of each kind of step on the table.
use Rattle.std.specs.Prelude.{◌≡◌, ◌≢◌, ℕ, ◌+◌, ◌<◌, List, [], ◌∷◌, ◌++◌, length, Option, Some}
use mathlib.Core.Option.{some}
use lib.ListN.{get_elem?}
use Rattle.std.specs.Global.{Vec}
use Rattle.atomic_table.specs.Table.{Me, Step}
use Rattle.history_laws.specs.Histories.{StartsWith, Chain, longer}
use Rattle.history_laws.specs.States.{AllShow}
use Rattle.gen_turns.specs.declared.board.SeatView.{SeatView}
use Rattle.gen_turns.specs.declared.board.Role.{Role}
use Rattle.gen_turns.specs.declared.board.Role.TheVariants.{Idle, Reader, Keeper}
use Rattle.gen_turns.specs.TurnRule.{Entry, ShowsLast, AreLast, seat_view}

-- one more reader was given
abbrev pub one_more : Role → Role
one_more (Keeper q g) = Keeper q (g + 1)
one_more role = role

abbrev pub next_role : Role → Role
next_role (Keeper q g) = Reader g
next_role _ = Idle

module _ {T X : Type 0} where
  -- the writer's view after a reader was made, and the view of that reader, which has the first list
  abbrev pub given_one : SeatView T X → SeatView T X
  given_one d = record d { role = one_more d.role }

  abbrev pub next_reader : SeatView T X → SeatView T X
  next_reader d = seat_view (next_role d.role) d.seen d.entered

  -- the view after a note was taken in
  abbrev pub with_note : SeatView T X → List X → SeatView T X
  with_note d told = record d { told = told }

  -- the seat has the ticket that it found
  abbrev pub drew : Step (Entry T) → Me (Entry T) (SeatView T X) → ℕ → Me (Entry T) (SeatView T X) → Type 0
  drew st m e m' = m' ≡ (record m.0 { stage = 2; ticket = e }, m.1)

  -- what is found in the vector: a reader finds its own place as the rule has it, and the writer finds values of the last state
  abbrev pub Finds : (T → X) → List X → List X → List X → List (Option T) → Role → Type 0
  Finds state whole seen entered ps Idle = Unit {0}
  Finds state whole seen entered ps (Reader r) = (r < length ps) × ((p : Option T) → get_elem? ps r ≡ some p → ShowsLast state whole entered p)
  Finds state whole seen entered ps (Keeper q g) = (whole ≡ seen) × (length ps ≡ q) × AreLast state whole ps

  -- at its own ticket the seat has the vector, and at another one nothing changes
  abbrev pub looked : (T → X) → (X → X → Type 0) → Step (Entry T) → Me (Entry T) (SeatView T X) → ℕ → Me (Entry T) (SeatView T X) → Type 0
  looked state follows st m e m' =
      (e ≡ m.0.ticket → (v : Vec (Option T)) × (whole : List X) × (m' ≡ (record m.0 { stage = 3; whole = whole; took = v.items }, (0, Some v) ∷ m.1)) × StartsWith whole m.0.seen × Chain follows whole × Finds state whole m.0.seen m.0.entered v.items m.0.role)
      × (e ≢ m.0.ticket → m' ≡ m)

  -- a reader's turn ends, and the reader has seen the whole list
  abbrev pub entered : Step (Entry T) → Me (Entry T) (SeatView T X) → ℕ → Me (Entry T) (SeatView T X) → Type 0
  entered st m e m' = m' ≡ (record m.0 { stage = 1; seen = m.0.whole; entered = m.0.whole }, [])

  -- the writer's turn ends, and the state of the values that it gave back is published
  abbrev pub published : (T → X) → (X → X → Type 0) → Step (Entry T) → Me (Entry T) (SeatView T X) → ℕ → Me (Entry T) (SeatView T X) → Type 0
  published state follows st m e m' = Chain follows m'.0.seen × ((x : X) (v : Vec (Option T)) → m.1 ≡ (0, Some v) ∷ [] → 0 < length v.items → AllShow state x v.items → m' ≡ (record m.0 { stage = 1; seen = m.0.seen ++ x ∷ [] }, []))

  -- the shorter list begins the longer one, and the longer one was seen
  abbrev pub learned : (X → X → Type 0) → Step (Entry T) → Me (Entry T) (SeatView T X) → ℕ → Me (Entry T) (SeatView T X) → Type 0
  learned follows st m e m' = (m' ≡ (record m.0 { seen = longer m.0.seen m.0.told; told = [] }, m.1)) × StartsWith m'.0.seen m.0.seen × StartsWith m'.0.seen m.0.told
      × ((q g : ℕ) → m.0.role ≡ Keeper q g → m'.0.seen ≡ m.0.seen) × Chain follows m'.0.seen
