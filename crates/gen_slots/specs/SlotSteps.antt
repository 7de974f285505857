-- The clauses of each kind of step on the table.
use Rattle.std.specs.Prelude.{◌≡◌, ◌≢◌, ℕ, zero, suc, ◌+◌, ◌-◌, ◌*◌, ◌%◌, ◌<◌, ◌≤◌, List, [], ◌∷◌, ◌++◌, length, get_or, slice_index, slice_set, replicate, Contains, Option, Some, None}
use Rattle.atomic_table.specs.Table.{Me, Step}
use Rattle.history_laws.specs.Histories.{StartsWith, EndsWith, Chain, longer}
use Rattle.history_laws.specs.States.{AllShow}
use Rattle.gen_slots.specs.declared.board.Plan.{Plan}
use Rattle.gen_slots.specs.declared.board.SeatView.{SeatView}
use Rattle.gen_slots.specs.declared.board.Role.{Role}
use Rattle.gen_slots.specs.declared.board.Role.TheVariants.{Idle, Out, Holds, Keeper}
use Rattle.gen_slots.specs.SlotRule.{sum_below, seat_view}

module _ {X : Type 0} where
  -- the plan after the slot s was published, where word 0 was e
  abbrev pub published_at : Plan X → ℕ → ℕ → X → Plan X
  published_at p s e x = record {
    readers = p.readers;
    given = p.given;
    published = s;
    standing = slice_set (slice_set p.standing p.published 1) s 2;
    counts = slice_set p.counts p.published (e - e % 256);
    states = slice_set p.states s x;
    tried = replicate 18 0;
    hand = 0;
    checks = p.checks;
  }

  -- the plan after the slot s was checked and found free
  abbrev pub taken_plan : Plan X → ℕ → Plan X
  taken_plan p s = record p { standing = slice_set p.standing s 0; tried = slice_set p.tried s 0; hand = s + 1; checks = p.checks + 1 }

  -- the plan after the slot s was checked and found in use
  abbrev pub tried_plan : Plan X → ℕ → Plan X
  tried_plan p s = record p { tried = slice_set p.tried s 1; checks = p.checks + 1 }

  -- The state with which each slot was published, or none if it was never used. It is read from the
  -- standings and states of a plan between two publications.
  abbrev pub slot_states : List ℕ → List X → List (Option X)
  slot_states [] xs = []
  slot_states (s ∷ ss) [] = []
  slot_states (zero ∷ ss) (x ∷ xs) = None ∷ slot_states ss xs
  slot_states (suc s ∷ ss) (x ∷ xs) = Some x ∷ slot_states ss xs

  abbrev pub given_one : Role X → Role X
  given_one (Keeper p) = Keeper (record p { given = p.given + 1 })
  given_one role = role

  -- a role whose list may change by a note
  abbrev pub IsLearner : Role X → Type 0
  IsLearner (Holds r s) = ⊥
  IsLearner _ = Unit {0}

  abbrev pub next_reader : Role X → Role X
  next_reader (Keeper p) = Out p.given
  next_reader _ = Idle

-- the berths of the slot s from the k-th reader on, with their contents
abbrev pub berths : {T : Type 0} → ℕ → ℕ → List (Option T) → List (ℕ × Option T)
berths s k [] = []
berths s k (y ∷ ys) = (32 * k + s, y) ∷ berths s (k + 1) ys

module _ {T X : Type 0} where
  -- what was in a slot's berths: nothing if it was never used, and otherwise values of its state,
  -- which was published
  abbrev pub WereStored : (T → X) → List X → ℕ → Option X → List (Option T) → Type 0
  WereStored state made n None ys = ys ≡ replicate n None
  WereStored state made n (Some x) ys = Contains made x × AllShow state x ys

  -- the reader r holds the slot e % 256, its list is now the writer's, and it has the value of its
  -- berth
  abbrev pub entered : (T → X) → (X → X → Type 0) → Step (Option T) → Me (Option T) (SeatView X) → ℕ → Me (Option T) (SeatView X) → Type 0
  entered state follows st m e m' = (r : ℕ) → m.0.role ≡ Out r
      → (32 * (e % 256) < st.slots + 64) × (m'.0.role ≡ Holds r (e % 256)) × (m'.0.moves ≡ m.0.moves + 1) × StartsWith m'.0.seen m.0.seen
      × ((v : T) × (m'.1 ≡ (32 * r + e % 256, Some v) ∷ m.1) × EndsWith m'.0.seen (state v)) × Chain follows m'.0.seen

  -- the reader holds nothing, and its value is in the berth again
  abbrev pub left : Step (Option T) → Me (Option T) (SeatView X) → ℕ → Me (Option T) (SeatView X) → Type 0
  left st m e m' = (r s : ℕ) → m.0.role ≡ Holds r s → (m'.0 ≡ seat_view (Out r) m.0.seen m.0.told (m.0.moves + 1)) × (m'.1 ≡ [])

  -- the writer's plan goes from p to some p' that `next` allows
  abbrev pub Plans : Me (Option T) (SeatView X) → Me (Option T) (SeatView X) → (Plan X → Plan X → Type 0) → Type 0
  Plans m m' next = (p : Plan X) → m.0.role ≡ Keeper p → (p' : Plan X) × (m'.0.role ≡ Keeper p') × next p p'

  -- Either the checked slot is free and its berths are taken, or it counts as tried. Few slots are
  -- tried.
  abbrev pub checked : (T → X) → Step (Option T) → Me (Option T) (SeatView X) → ℕ → Me (Option T) (SeatView X) → Type 0
  checked state st m e m' = (m'.0.seen ≡ m.0.seen) × (m'.0.told ≡ m.0.told) × ((s : ℕ) → st.word ≡ 1 + s → Plans m m' (λ p p'.
      (e ≡ slice_index p.counts s → (p' ≡ taken_plan p s) × ((ys : List (Option T)) × (length ys ≡ p.readers) × WereStored state m.0.seen p.readers (get_or (slot_states p.standing p.states) s None) ys × (m'.1 ≡ berths s 0 ys)))
      × (e ≢ slice_index p.counts s → (p' ≡ tried_plan p s) × (m'.1 ≡ []) × (sum_below (p.readers + 2) (slice_index p'.tried) ≤ p.readers))))

  -- the slot in hand is published, with the values that were put into its berths
  abbrev pub published : (T → X) → (X → X → Type 0) → Step (Option T) → Me (Option T) (SeatView X) → ℕ → Me (Option T) (SeatView X) → Type 0
  published state follows st m e m' = (m'.1 ≡ []) × Chain follows m'.0.seen × (m'.0.told ≡ m.0.told) × Plans m m' (λ p p'. (x : X) (ys : List (Option T)) → m.1 ≡ berths (p.hand - 1) 0 ys → 0 < length ys → AllShow state x ys
      → (p' ≡ published_at p (p.hand - 1) e x) × (slot_states p'.standing p'.states ≡ slice_set (slot_states p.standing p.states) (p.hand - 1) (Some x)) × (m'.0.seen ≡ m.0.seen ++ x ∷ []))

  -- the shorter list is a beginning of the longer one, and the longer one was seen
  abbrev pub learned : (X → X → Type 0) → Step (Option T) → Me (Option T) (SeatView X) → ℕ → Me (Option T) (SeatView X) → Type 0
  learned follows st m e m' = (m' ≡ (seat_view m.0.role (longer m.0.seen m.0.told) [] m.0.moves, m.1)) × StartsWith m'.0.seen m.0.seen × StartsWith m'.0.seen m.0.told
      × ((p : Plan X) → m.0.role ≡ Keeper p → m'.0.seen ≡ m.0.seen) × Chain follows m'.0.seen
