-- The rule of the table: what holds between any two steps, whatever the threads do. In words:
--
-- - The seats: one is the writer's. Each reader's number has at most one seat, and none before the
--   number is given. Notes hold no slot.
-- - The published word: modulo 256 it is the number of the writer's published slot.
-- - The counts: a slot's enters are its leaves and its holders, modulo 2 ^ 56. The done word of a
--   free slot is the writer's number, and nobody holds the slot.
-- - The lists: each is a beginning of the writer's list, which is a chain. A slot that isn't free
--   has one state of that list. The published slot's state is the last one. The list of a reader
--   that holds a slot ends with the slot's state. If that slot is the published one, the reader's
--   list is the writer's.
-- - The berths: a reader's berth of a slot that isn't free is at home with the slot's state, or out
--   with the reader that holds the slot. The writer alone has the berths of the slot in its hand.
--   Berths of a slot that was never used are empty.
-- - The tries: count the retired slots that were tried since the last publication. Add the readers
--   that hold a retired slot that wasn't tried since then. The sum is at most the number of
--   readers.
-- - The moves: the additions that the views have counted are those that the words got.
--
-- A reader's stage is 0 before it is made, 1 outside, and s + 2 while it holds the slot s. A slot's
-- number in `standing` is 0 if it is free, 1 if it is retired and 2 if it is published.
use Rattle.std.specs.Prelude.{◌≡◌, ◌≢◌, ◌==◌, ◌&&◌, ℕ, zero, suc, ◌+◌, ◌*◌, ◌%◌, ◌<◌, ◌≤◌, Bool, true, false, nat_lt, List, [], ◌∷◌, length, replicate, slice_index, sum_by, Contains, Option, Some, None}
use mathlib.Core.Option.{some}
use mathlib.Core.Option as maybe
use lib.ListN.{get_elem?}
use Rattle.atomic_table.specs.Table.{State}
use Rattle.history_laws.specs.Histories.{StartsWith, EndsWith, Chain}
use Rattle.gen_slots.specs.declared.board.Plan.{Plan}
use Rattle.gen_slots.specs.declared.board.SeatView.{SeatView}
use Rattle.gen_slots.specs.declared.board.Role.{Role}
use Rattle.gen_slots.specs.declared.board.Role.TheVariants.{Idle, Out, Holds, Keeper}

abbrev pub tally : Bool → ℕ
tally true = 1
tally false = 0

-- the sum of f below n
abbrev pub sum_below : ℕ → (ℕ → ℕ) → ℕ
sum_below zero f = 0
sum_below (suc n) f = f n + sum_below n f

-- how many of the readers below n are at a stage
abbrev pub count_at : ℕ → (ℕ → ℕ) → ℕ → ℕ
count_at n stage t = sum_below n (λ r. tally (stage r == t))

-- how many of them hold a slot
abbrev pub count_inside : ℕ → (ℕ → ℕ) → ℕ
count_inside n stage = sum_below n (λ r. tally (nat_lt 1 (stage r)))

module _ {X : Type 0} where
  -- a reader at this stage holds a retired slot that was not tried since the last publication
  abbrev pub lags : Plan X → ℕ → Bool
  lags p zero = false
  lags p (suc zero) = false
  lags p (suc (suc k)) = (slice_index p.standing k == 1) && (slice_index p.tried k == 0)

  abbrev pub laggards : ℕ → Plan X → (ℕ → ℕ) → ℕ
  laggards n p stage = sum_below n (λ r. tally (lags p (stage r)))

  abbrev pub moves_of : SeatView X → ℕ
  moves_of v = v.moves

module _ {T X : Type 0} (state : T → X) where
  -- the berth k is at home, with a value of this state
  abbrev pub AtHome : List (maybe.Option (Option T)) → ℕ → X → Type 0
  AtHome homes k x = (v : T) × (get_elem? homes k ≡ some (some (Some v))) × (state v ≡ x)

  -- What holds of the slot s. Its done word counts its leaves from `start` on. Its enters are its
  -- leaves and its holders. Word 0 has the enters while the slot is published, and the writer's
  -- counts have them after it retired.
  pub record SlotKept (start : ℕ) (p : Plan X) (n : ℕ) (words : List ℕ) (homes : List (maybe.Option (Option T))) (stage leaves : ℕ → ℕ) (s : ℕ) : Type 0 where
    pub done : slice_index words (1 + s) ≡ (256 * (start + leaves s)) % 18446744073709551616
    pub live : s ≡ p.published → (slice_index words (1 + s) + 256 * count_at n stage (s + 2) + s) % 18446744073709551616 ≡ slice_index words 0
    pub retired : slice_index p.standing s ≡ 1 → (slice_index words (1 + s) + 256 * count_at n stage (s + 2)) % 18446744073709551616 ≡ slice_index p.counts s
    pub free : slice_index p.standing s ≡ 0 → (slice_index words (1 + s) ≡ slice_index p.counts s) × (count_at n stage (s + 2) ≡ 0)
    -- a berth of a slot that isn't free is at home with the slot's state, unless its reader holds
    -- the slot
    pub home : 0 < slice_index p.standing s → (r : ℕ) → r < n → stage r ≢ s + 2 → (x : X) → get_elem? p.states s ≡ some x → AtHome homes (32 * r + s) x
    -- a berth of a slot that was never used is at home and empty
    pub unused : slice_index p.standing s ≡ 0 → p.hand ≢ s + 1 → (r : ℕ) → r < n → get_elem? homes (32 * r + s) ≡ some (some None)

  -- What holds of a seat's view. A reader's number has one seat. The list of a reader that holds a
  -- slot ends with the slot's state. If that slot is the published one, it is the writer's whole
  -- list.
  module _ (p : Plan X) (made : List X) (n writer : ℕ) (stage owner : ℕ → ℕ) (seat : ℕ) (seen : List X) where
    abbrev pub Plays : Role X → Type 0
    Plays Idle = Unit {0}
    Plays (Out r) = (r < n) × (stage r ≡ 1) × (owner r ≡ seat)
    Plays (Holds r s) = (r < n) × (stage r ≡ s + 2) × (owner r ≡ seat) × (s ≡ p.published → seen ≡ made) × ((x : X) × (get_elem? p.states s ≡ some x) × EndsWith seen x)
    Plays (Keeper q) = (q ≡ p) × (seat ≡ writer) × (seen ≡ made)

  pub record Kept (follows : X → X → Type 0) (start : ℕ) (s : State (Option T) (SeatView X)) : Type 0 where
    pub n : ℕ
    pub plan : Plan X
    pub made : List X
    pub writer : ℕ
    pub stage : ℕ → ℕ
    pub owner : ℕ → ℕ
    pub leaves : ℕ → ℕ
    pub few : (0 < n) × (n ≤ 16) × (plan.readers ≡ n)
    pub wide : length s.words ≡ n + 3
    pub deep : length s.homes ≡ 32 * n
    pub lists : (length plan.standing ≡ 18) × (length plan.counts ≡ 18) × (length plan.states ≡ 18) × (length plan.tried ≡ 18)
    pub published : (plan.published < n + 2) × (slice_index plan.standing plan.published ≡ 2)
    pub newest : (x : X) × (get_elem? plan.states plan.published ≡ some x) × EndsWith made x
    pub alone : (k : ℕ) → slice_index plan.standing k ≡ 2 → k ≡ plan.published
    pub standings : (k : ℕ) → slice_index plan.standing k < 3
    pub of_made : (k : ℕ) (x : X) → 0 < slice_index plan.standing k → get_elem? plan.states k ≡ some x → Contains made x
    pub hand : (k : ℕ) → plan.hand ≡ k + 1 → (k < n + 2) × (slice_index plan.standing k ≡ 0)
    pub each_slot : (k : ℕ) → k < n + 2 → SlotKept start plan n s.words s.homes stage leaves k
    pub inside : (r : ℕ) → stage r < n + 4
    -- A slot that a reader holds is not free.
    pub in_use : (r k : ℕ) → r < n → stage r ≡ k + 2 → 0 < slice_index plan.standing k
    pub ungiven : (r : ℕ) → plan.given ≤ r → stage r ≡ 0
    pub chain : Chain follows made
    -- the number of slots that were tried since the last publication, plus the readers that hold a
    -- retired slot that wasn't tried since then
    pub few_fail : sum_below (n + 2) (slice_index plan.tried) + laggards n plan stage ≤ n
    -- The views have counted as many additions as there were enters and leaves: two for each leave,
    -- and one for each reader inside.
    pub moved : sum_by moves_of s.views ≡ 2 * sum_below (n + 2) leaves + count_inside n stage
    pub each_seat : (j : ℕ) (d : SeatView X) → get_elem? s.views j ≡ some d → StartsWith made d.seen × StartsWith made d.told × Plays plan made n writer stage owner j d.seen d.role

module _ {X : Type 0} where
  abbrev pub seat_view : Role X → List X → List X → ℕ → SeatView X
  seat_view role seen told moves = record { role = role; seen = seen; told = told; moves = moves }

  -- the writer's plan at the start, where slot 0 is published
  abbrev pub first_plan : ℕ → ℕ → X → Plan X
  first_plan n start x = record { readers = n; given = 0; published = 0; standing = 2 ∷ replicate 17 0; counts = replicate 18 (256 * start); states = replicate 18 x; tried = replicate 18 0; hand = 0; checks = 0 }

  abbrev pub starting : ℕ → ℕ → X → SeatView X
  starting n start x = seat_view (Keeper (first_plan n start x)) (x ∷ []) [] 0
