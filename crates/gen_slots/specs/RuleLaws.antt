-- What the rule says of the running words. Each kind of step keeps the rule, whatever the other
-- threads did before.
use Rattle.std.specs.Prelude.{◌≡◌, ◌↔◌, ℕ, ◌+◌, ◌*◌, ◌/◌, ◌%◌, ◌^◌, ◌<◌, ◌≤◌, ◌≢◌, ◌⊎◌, List, [], ◌∷◌, length, slice_index, replicate, sum_by, Option, Some}
use mathlib.Core.Option.{none, some}
use lib.ListN.{get_elem?}
use Rattle.atomic_table.specs.Table.{State, Me, step, opening, Allows, Splits, Joins}
use Rattle.history_laws.specs.Histories.{StartsWith, EndsWith, Chain}
use Rattle.history_laws.specs.States.{AllAre, AllShow}
use Rattle.gen_slots.specs.declared.board.Plan.{Plan}
use Rattle.gen_slots.specs.declared.board.SeatView.{SeatView}
use Rattle.gen_slots.specs.declared.board.Role.{Role}
use Rattle.gen_slots.specs.declared.board.Role.TheVariants.{Idle, Out, Holds, Keeper}
use Rattle.gen_slots.specs.SlotRule.{Kept, AtHome, sum_below, count_at, count_inside, moves_of, starting, seat_view}
use Rattle.gen_slots.specs.SlotSteps.{IsLearner, entered, left, checked, published, learned, given_one, next_reader, berths}
use Rattle.gen_slots.specs.SlotViews.{laid}

-- A slot's leaves and holders together are congruent to its enters, modulo 2 ^ 56. While the slot
-- is published, word 0 has its enters. After it retired, the writer keeps them. So nobody holds a
-- retired slot exactly if its done word equals the writer's count.
pub record IsCounted {T X : Type 0} (state : T → X) (follows : X → X → Type 0) (start : ℕ) (s : State (Option T) (SeatView X)) (k : Kept state follows start s) : Type 0 where
  pub names : slice_index s.words 0 % 256 ≡ k.plan.published
  pub published : (slice_index s.words (1 + k.plan.published) / 256 + count_at k.n k.stage (k.plan.published + 2)) % 72057594037927936 ≡ slice_index s.words 0 / 256
  pub retired : (c : ℕ) → c < k.n + 2 → slice_index k.plan.standing c ≡ 1 → (slice_index s.words (1 + c) / 256 + count_at k.n k.stage (c + 2)) % 72057594037927936 ≡ slice_index k.plan.counts c / 256
  pub few : (c : ℕ) → count_at k.n k.stage (c + 2) ≤ 16
  pub exact : (c : ℕ) → c < k.n + 2 → slice_index k.plan.standing c ≡ 1 → (slice_index s.words (1 + c) ≡ slice_index k.plan.counts c) ↔ (count_at k.n k.stage (c + 2) ≡ 0)
  -- The words start at `start`. The additions that the readers count are the additions that the
  -- words got.
  pub done : (c : ℕ) → c < k.n + 2 → slice_index s.words (1 + c) ≡ (256 * (start + k.leaves c)) % 2 ^ 64
  pub moved : sum_by moves_of s.views ≡ 2 * sum_below (k.n + 2) k.leaves + count_inside k.n k.stage

-- A slot that a reader holds is not free. Its state ends the reader's list, which is a beginning of
-- what was published. The berths of the other readers keep that state.
--
-- A reader that holds the published slot has the writer's list. Each reader has it right after its
-- enter.
pub record IsHeldSafely {T X : Type 0} (state : T → X) (follows : X → X → Type 0) (start : ℕ) (s : State (Option T) (SeatView X)) (k : Kept state follows start s) : Type 0 where
  pub not_free : (j r c : ℕ) (d : SeatView X) → get_elem? s.views j ≡ some d → d.role ≡ Holds r c → 0 < slice_index k.plan.standing c
  pub same_state : (j r c : ℕ) (d : SeatView X) (x : X) → get_elem? s.views j ≡ some d → d.role ≡ Holds r c → get_elem? k.plan.states c ≡ some x → EndsWith d.seen x × StartsWith k.made d.seen
  pub newest : (i j r : ℕ) (d e : SeatView X) (p : Plan X) → get_elem? s.views i ≡ some d → get_elem? s.views j ≡ some e → d.role ≡ Holds r k.plan.published → e.role ≡ Keeper p → d.seen ≡ e.seen
  pub at_home : (c q : ℕ) (x : X) → c < k.n + 2 → 0 < slice_index k.plan.standing c → q < k.n → k.stage q ≢ c + 2 → get_elem? k.plan.states c ≡ some x → AtHome state s.homes (32 * q + c) x

-- the role of the reader r
abbrev pub IsReader : {X : Type 0} → ℕ → Role X → Type 0
IsReader r role = (role ≡ Out r) ⊎ ((c : ℕ) × (role ≡ Holds r c))

-- One seat is the writer's. A reader's number has at most one seat, and none before the number is
-- given. Each seat's list is a beginning of what was published, and that is a chain.
pub record IsSeated {T X : Type 0} (state : T → X) (follows : X → X → Type 0) (start : ℕ) (s : State (Option T) (SeatView X)) (k : Kept state follows start s) : Type 0 where
  pub one_writer : (i j : ℕ) (d e : SeatView X) (p q : Plan X) → get_elem? s.views i ≡ some d → get_elem? s.views j ≡ some e → d.role ≡ Keeper p → e.role ≡ Keeper q → i ≡ j
  pub one_reader : (i j r : ℕ) (d e : SeatView X) → get_elem? s.views i ≡ some d → get_elem? s.views j ≡ some e → IsReader r d.role → IsReader r e.role → i ≡ j
  pub given : (j r : ℕ) (d : SeatView X) → get_elem? s.views j ≡ some d → IsReader r d.role → r < k.plan.given
  pub one_list : (j : ℕ) (d : SeatView X) → get_elem? s.views j ≡ some d → StartsWith k.made d.seen
  pub chain : Chain follows k.made

module _ {T X : Type 0} (state : T → X) (follows : X → X → Type 0) where
  abbrev pub Rule : ℕ → State (Option T) (SeatView X) → Type 0
  Rule start = Kept state follows start

  abbrev pub Counts : Type 0
  Counts = (start : ℕ) (s : State (Option T) (SeatView X)) (k : Rule start s) → IsCounted state follows start s k

  abbrev pub HoldsSafely : Type 0
  HoldsSafely = (start : ℕ) (s : State (Option T) (SeatView X)) (k : Rule start s) → IsHeldSafely state follows start s k

  abbrev pub Seats : Type 0
  Seats = (start : ℕ) (s : State (Option T) (SeatView X)) (k : Rule start s) → IsSeated state follows start s k

  -- the table at the start, with every count at `start`
  abbrev pub Opens : Type 0
  Opens = (start n : ℕ) (x : X) (first : List T) → n ≡ length first → 0 < n → n ≤ 16 → start < 2 ^ 56 → AllAre state x first
      → Rule start (opening (replicate (n + 3) (256 * start)) (laid first) (starting n start x))

  -- a reader that holds nothing adds 256 to word 0
  abbrev pub EnterKeeps : Type 0
  EnterKeeps = (start slots id : ℕ) (me : Me (Option T) (SeatView X)) (r : ℕ) → me.0.role ≡ Out r
      → Allows (Rule start) slots id me 0 (λ x. (x + 256) % 2 ^ 64) (entered state follows (step slots 0 256 0 none) me)

  -- a reader that holds the slot c gives back a value of its state, and adds 256 to the done word
  -- of c
  abbrev pub LeaveKeeps : Type 0
  LeaveKeeps = (start slots id : ℕ) (me : Me (Option T) (SeatView X)) (r c : ℕ) (v : T) → me.0.role ≡ Holds r c → me.1 ≡ (32 * r + c, Some v) ∷ [] → EndsWith me.0.seen (state v)
      → Allows (Rule start) slots id me (1 + c) (λ x. (x + 256) % 2 ^ 64) (left (step slots (1 + c) 256 0 none) me)

  -- the writer loads the done word of a slot that isn't published
  abbrev pub CheckKeeps : Type 0
  CheckKeeps = (start slots id : ℕ) (me : Me (Option T) (SeatView X)) (p : Plan X) (c : ℕ) → me.0.role ≡ Keeper p → me.1 ≡ [] → c < p.readers + 2 → c ≢ p.published → p.hand ≡ 0
      → Allows (Rule start) slots id me (1 + c) (λ x. x) (checked state (step slots (1 + c) 0 0 none) me)

  -- the writer has a free slot c whose berths have values of one state that may follow; it swaps
  -- word 0 for the count of c's leaves and its number
  abbrev pub PublishKeeps : Type 0
  PublishKeeps = (start slots id : ℕ) (me : Me (Option T) (SeatView X)) (p : Plan X) (c new : ℕ) (x : X) (ys : List (Option T)) → me.0.role ≡ Keeper p → p.hand ≡ c + 1 → me.1 ≡ berths c 0 ys → length ys ≡ p.readers
      → AllShow state x ys → ((y : X) → EndsWith me.0.seen y → follows y x) → new ≡ slice_index p.counts c + c → new < 2 ^ 64
      → Allows (Rule start) slots id me 0 (λ _. new) (published state follows (step slots 0 new 0 none) me)

  -- the writer's view is split, for a reader that wasn't made before
  abbrev pub DealKeeps : Type 0
  DealKeeps = (start id : ℕ) (v : SeatView X) (p : Plan X) → v.role ≡ Keeper p → p.given < p.readers
      → Splits (Rule start) id v (seat_view (given_one v.role) v.seen v.told v.moves) (seat_view (next_reader v.role) v.seen [] 0)

  -- any view is split, for a note
  abbrev pub TellKeeps : Type 0
  TellKeeps = (start id : ℕ) (v : SeatView X) → Splits (Rule start) id v v (seat_view Idle v.seen [] 0)

  -- a view takes in a note, which is used up
  abbrev pub MeetKeeps : Type 0
  MeetKeeps = (start id : ℕ) (v : SeatView X) (other : ℕ) (w : SeatView X) → Joins (Rule start) id v other w (seat_view v.role v.seen w.seen (v.moves + w.moves)) (seat_view Idle [] [] 0)

  -- a reader that holds nothing, or the writer, loads word 0
  abbrev pub LearnKeeps : Type 0
  LearnKeeps = (start slots id : ℕ) (me : Me (Option T) (SeatView X)) → IsLearner me.0.role → Allows (Rule start) slots id me 0 (λ x. x) (learned follows (step slots 0 0 0 none) me)
