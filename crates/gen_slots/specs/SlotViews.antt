-- What a contract sees of readers, notes and the writer.
use Rattle.std.specs.Prelude.{◌≡◌, ℕ, ◌+◌, ◌*◌, ◌<◌, List, [], ◌∷◌, ◌++◌, replicate, slice_set, Option, Some, None}
use Rattle.atomic_table.specs.Seated.{TableId}
use Rattle.gen_slots.specs.declared.board.Plan.{Plan}
use Rattle.gen_slots.specs.declared.board.SeatView.{SeatView}
use Rattle.gen_slots.specs.declared.board.Role.{Role}
use Rattle.gen_slots.specs.declared.board.Role.TheVariants.{Keeper}
use Rattle.gen_slots.specs.SlotSteps.{slot_states}

-- A reader, holding a slot or not: its table, the states that it has seen, its number, and its
-- number of atomic additions.
pub record PassView (X : Type 0) : Type 0 where
  pub of : TableId
  pub seen : List X
  pub reader : ℕ
  pub moves : ℕ

abbrev pub pass_view : {X : Type 0} → TableId → SeatView X → ℕ → PassView X
pass_view z d r = record { of = z; seen = d.seen; reader = r; moves = d.moves }

-- of a note
pub record Telling (X : Type 0) : Type 0 where
  pub of : TableId
  pub list : List X

-- The writer: the states that were published, the start of every count, its number of loads of done
-- words, and the published slot. Of each slot it has the state of its values, or none if the slot
-- was never used.
pub record Publishing (X : Type 0) : Type 0 where
  pub of : TableId
  pub made : List X
  pub readers : ℕ
  pub start : ℕ
  pub checks : ℕ
  pub published : ℕ
  pub states : List (Option X)

abbrev pub checks_of : {X : Type 0} → Role X → ℕ
checks_of (Keeper p) = p.checks
checks_of _ = 0

abbrev pub states_of : {X : Type 0} → Role X → List (Option X)
states_of (Keeper p) = slot_states p.standing p.states
states_of _ = []

abbrev pub publishing : {X : Type 0} → TableId → SeatView X → ℕ → ℕ → ℕ → Publishing X
publishing z d readers published start = record { of = z; made = d.seen; readers = readers; start = start; checks = checks_of d.role; published = published; states = states_of d.role }

-- 32 berths for each reader, one word for each of readers + 2 slots, and one more word
abbrev pub IsSized : TableId → Type 0
IsSized z = (z.slots + 96 ≡ 32 * z.words) × (z.slots < 1024)

module _ {X : Type 0} where
  -- the plan while the slot s is in hand, with the tries t, after m checks
  abbrev pub found_plan : Plan X → ℕ → List ℕ → ℕ → Plan X
  found_plan p s t m = record p { standing = slice_set p.standing s 0; tried = t; hand = s + 1; checks = p.checks + m }

  -- the writer's plan between two publications
  abbrev pub IsPlanAtRest : ℕ → ℕ → List ℕ → Role X → Type 0
  IsPlanAtRest readers published counts role = (p : Plan X) × (role ≡ Keeper p) × (p.readers ≡ readers) × (p.published ≡ published) × (p.counts ≡ counts) × (p.tried ≡ replicate 18 0) × (p.hand ≡ 0)

-- new readers, numbered from k on
abbrev pub AllNew : {X : Type 0} → TableId → List X → ℕ → List (PassView X) → Type 0
AllNew z seen k [] = Unit {0}
AllNew z seen k (p ∷ ps) = (p ≡ record { of = z; seen = seen; reader = k; moves = 0 }) × AllNew z seen (k + 1) ps

-- the berths at the start: each reader's first has its value
abbrev pub laid : {T : Type 0} → List T → List (Option T)
laid [] = []
laid (v ∷ vs) = Some v ∷ replicate 31 None ++ laid vs
