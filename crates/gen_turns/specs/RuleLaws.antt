-- What the rule says of the tickets, the vector and the seats. Each kind of step keeps the rule,
-- whatever the other threads did before.
use Rattle.std.specs.Prelude.{◌≡◌, ◌≢◌, ℕ, ◌+◌, ◌%◌, ◌^◌, ◌<◌, ◌≤◌, [], ◌∷◌, length, slice_index, slice_set, replicate, Option, Some, None}
use mathlib.Core.Option.{none, some}
use lib.ListN.{get_elem?}
use Rattle.std.specs.Global.{Vec}
use Rattle.atomic_table.specs.Table.{State, Me, step, opening, Allows, Splits, Joins}
use Rattle.history_laws.specs.Histories.{StartsWith, EndsWith, Chain}
use Rattle.history_laws.specs.States.{AllShow}
use Rattle.ticket_line.specs.Tickets.{InLine}
use Rattle.gen_turns.specs.declared.board.SeatView.{SeatView}
use Rattle.gen_turns.specs.declared.board.Role.TheVariants.{Idle, Reader, Keeper}
use Rattle.gen_turns.specs.TurnRule.{Entry, HasTurns, stage_of, ticket_of, IsStocked, Kept, listing, starting}
use Rattle.gen_turns.specs.TurnSteps.{given_one, next_reader, with_note, drew, looked, entered, published, learned}

-- The tickets that are out are exactly the numbers from the served one, in word 1, up to the next
-- one, in word 0, modulo 2 ^ 64. Each is in one seat, in their order. At most one is out for each
-- reader and the writer.
pub record IsQueued {T X : Type 0} (state : T → X) (follows : X → X → Type 0) (s : State (Entry T) (SeatView T X)) (k : Kept state follows s) : Type 0 where
  pub queue : InLine stage_of ticket_of s.words s.views k.line
  pub few : length k.line ≤ k.n + 1
  pub one : (i j : ℕ) (d e : SeatView T X) → get_elem? s.views i ≡ some d → get_elem? s.views j ≡ some e → 1 < d.stage → 1 < e.stage → d.ticket ≡ e.ticket → i ≡ j
  pub turns : (j : ℕ) (d : SeatView T X) → get_elem? s.views j ≡ some d → 1 < d.stage → HasTurns d.role

-- Only the seat whose ticket is served may have the vector. It found the vector as at home: with a
-- value of the last state for each reader, or nothing if that reader entered last with the whole
-- list. The list that it notes is the writer's. An enter makes this list its own.
pub record IsHandedOn {T X : Type 0} (state : T → X) (follows : X → X → Type 0) (s : State (Entry T) (SeatView T X)) (k : Kept state follows s) : Type 0 where
  pub served : (j : ℕ) (d : SeatView T X) → get_elem? s.views j ≡ some d → d.stage ≡ 3 → d.ticket ≡ slice_index s.words 1
  pub taken : (j : ℕ) (d : SeatView T X) → get_elem? s.views j ≡ some d → d.stage ≡ 3 → (d.whole ≡ k.made) × IsStocked state k.n k.made k.last d.took
  pub newest : (i j q g : ℕ) (d e : SeatView T X) → get_elem? s.views i ≡ some d → get_elem? s.views j ≡ some e → d.stage ≡ 3 → e.role ≡ Keeper q g → d.whole ≡ e.seen
  pub home : ((j : ℕ) (d : SeatView T X) → get_elem? s.views j ≡ some d → d.stage ≢ 3) → (v : Vec (Option T)) × (get_elem? s.homes 0 ≡ some (some (Some v))) × IsStocked state k.n k.made k.last v.items
  pub last : (j r : ℕ) (d : SeatView T X) → get_elem? s.views j ≡ some d → d.role ≡ Reader r → k.last r ≡ d.entered
  pub before : (r : ℕ) → k.given ≤ r → r < k.n → k.last r ≡ k.first

-- One seat is the writer's. A reader's number has at most one seat, and none before the number is
-- given. Each seat's list begins what was published, and that is a chain. The list of a seat's last
-- enter begins its list.
pub record IsSeated {T X : Type 0} (state : T → X) (follows : X → X → Type 0) (s : State (Entry T) (SeatView T X)) (k : Kept state follows s) : Type 0 where
  pub one_writer : (i j : ℕ) (d e : SeatView T X) (p g q h : ℕ) → get_elem? s.views i ≡ some d → get_elem? s.views j ≡ some e → d.role ≡ Keeper p g → e.role ≡ Keeper q h → i ≡ j
  pub one_reader : (i j r : ℕ) (d e : SeatView T X) → get_elem? s.views i ≡ some d → get_elem? s.views j ≡ some e → d.role ≡ Reader r → e.role ≡ Reader r → i ≡ j
  pub given : (j r : ℕ) (d : SeatView T X) → get_elem? s.views j ≡ some d → d.role ≡ Reader r → (r < k.given) × (r < k.n)
  pub one_list : (j : ℕ) (d : SeatView T X) → get_elem? s.views j ≡ some d → StartsWith k.made d.seen × StartsWith d.seen d.entered
  pub chain : Chain follows k.made

module _ {T X : Type 0} (state : T → X) (follows : X → X → Type 0) where
  abbrev pub Rule : State (Entry T) (SeatView T X) → Type 0
  Rule = Kept state follows

  abbrev pub Queues : Type 0
  Queues = (s : State (Entry T) (SeatView T X)) (k : Rule s) → IsQueued state follows s k

  abbrev pub HandsOn : Type 0
  HandsOn = (s : State (Entry T) (SeatView T X)) (k : Rule s) → IsHandedOn state follows s k

  abbrev pub Seats : Type 0
  Seats = (s : State (Entry T) (SeatView T X)) (k : Rule s) → IsSeated state follows s k

  -- the table at the start: no ticket is out, and the places are empty
  abbrev pub Opens : Type 0
  Opens = (n : ℕ) (x : X) (v : Vec (Option T)) → 0 < n → n ≤ 16 → v.items ≡ replicate n None → Rule (opening (0 ∷ 0 ∷ []) (Some v ∷ []) (starting n x))

  -- a reader or the writer, without a ticket, adds 1 to word 0
  abbrev pub DrawKeeps : Type 0
  DrawKeeps = (slots id : ℕ) (me : Me (Entry T) (SeatView T X)) → HasTurns me.0.role → me.0.stage ≡ 1 → Allows Rule slots id me 0 (λ x. (x + 1) % 2 ^ 64) (drew (step slots 0 1 0 none) me)

  -- a seat with a ticket loads word 1
  abbrev pub LookKeeps : Type 0
  LookKeeps = (slots id : ℕ) (me : Me (Entry T) (SeatView T X)) → HasTurns me.0.role → me.0.stage ≡ 2 → Allows Rule slots id me 1 (λ x. x) (looked state follows (step slots 1 0 0 none) me)

  -- a reader gives back the vector with its own place empty, and stores the next ticket in word 1
  abbrev pub EnterKeeps : Type 0
  EnterKeeps = (slots id : ℕ) (me : Me (Entry T) (SeatView T X)) (r new : ℕ) (v : Vec (Option T)) → me.0.role ≡ Reader r → me.0.stage ≡ 3 → me.1 ≡ (0, Some v) ∷ [] → v.items ≡ slice_set me.0.took r None → new ≡ (me.0.ticket + 1) % 18446744073709551616
      → Allows Rule slots id me 1 (λ _. new) (λ _. entered (step slots 1 new 0 none) me new)

  -- the writer gives back values of one state that may follow, one for each reader, and stores the
  -- next ticket in word 1
  abbrev pub PublishKeeps : Type 0
  PublishKeeps = (slots id : ℕ) (me : Me (Entry T) (SeatView T X)) (q g new : ℕ) (x : X) (v : Vec (Option T)) → me.0.role ≡ Keeper q g → me.0.stage ≡ 3 → me.1 ≡ (0, Some v) ∷ [] → length v.items ≡ q → AllShow state x v.items
      → ((y : X) → EndsWith me.0.seen y → follows y x) → new ≡ (me.0.ticket + 1) % 18446744073709551616
      → Allows Rule slots id me 1 (λ _. new) (λ _. published state follows (step slots 1 new 0 none) me new)

  -- the writer's view is split, for a reader that wasn't made before
  abbrev pub DealKeeps : Type 0
  DealKeeps = (id : ℕ) (v : SeatView T X) (q g : ℕ) → v.role ≡ Keeper q g → g < q → Splits Rule id v (given_one v) (next_reader v)

  -- any view is split, for a note
  abbrev pub TellKeeps : Type 0
  TellKeeps = (id : ℕ) (v : SeatView T X) → Splits Rule id v v (listing v.seen)

  -- a view takes in a note, which is used up
  abbrev pub MeetKeeps : Type 0
  MeetKeeps = (id : ℕ) (v : SeatView T X) (other : ℕ) (w : SeatView T X) → w.role ≡ Idle → Joins Rule id v other w (with_note v w.seen) (listing [])

  -- a seat that took in a note loads word 1
  abbrev pub LearnKeeps : Type 0
  LearnKeeps = (slots id : ℕ) (me : Me (Entry T) (SeatView T X)) → Allows Rule slots id me 1 (λ x. x) (learned follows (step slots 1 0 0 none) me)
