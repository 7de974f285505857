-- What the rule says of the counter's word, and that each kind of step keeps it, whatever the other threads did before.
use Rattle.std.specs.Prelude.{◌≡◌, ◌≢◌, ℕ, ◌+◌, ◌-◌, ◌%◌, ◌^◌, ◌<◌, ◌≤◌, List, [], ◌∷◌, ◌++◌, slice_index}
use mathlib.Core.Option.{none, some}
use lib.ListN.{get_elem?}
use Rattle.atomic_table.specs.Table.{State, Me, step, opening, Allows, Splits, Joins}
use Rattle.packet_pool.specs.declared.counter.Hand.{Hand}
use Rattle.packet_pool.specs.Draws.{Kept, times, hand, drew, counted}

-- one view has the number x once, and no other view has it
abbrev pub IsOnes : ℕ → List Hand → Type 0
IsOnes x views = (j : ℕ) × (v : Hand) × (get_elem? views j ≡ some v) × (times x v.drawn ≡ 1) × ((i : ℕ) (w : Hand) → i ≢ j → get_elem? views i ≡ some w → times x w.drawn ≡ 0)

-- Each number below the word is once in one view's list, and in no other's.
abbrev pub DrawnOnce : Type 0
DrawnOnce = (batches workers : ℕ) (s : State ℕ Hand) → Kept batches workers s → (x : ℕ) → x < slice_index s.words 0 → IsOnes x s.views

-- No other number is in any view's list.
abbrev pub NoOthers : Type 0
NoOthers = (batches workers : ℕ) (s : State ℕ Hand) → Kept batches workers s → (x : ℕ) → slice_index s.words 0 ≤ x → (j : ℕ) (v : Hand) → get_elem? s.views j ≡ some v → times x v.drawn ≡ 0

-- The word is at most the number of batches plus the number of workers, which is below 2 ^ 64. So it
-- never wraps.
abbrev pub NeverWraps : Type 0
NeverWraps = (batches workers : ℕ) (s : State ℕ Hand) → Kept batches workers s → (slice_index s.words 0 ≤ batches + workers) × (batches + workers < 2 ^ 64)

-- the counter at the start, and the seat that represents all workers
abbrev pub Opens : Type 0
Opens = (batches workers : ℕ) → batches + workers < 2 ^ 64 → Kept batches workers (opening (0 ∷ []) [] (hand workers batches [] 0))

-- a seat that has drawn fewer numbers past the batches than it represents workers adds 1
abbrev pub DrawKeeps : Type 0
DrawKeeps = (batches workers slots id : ℕ) (me : Me ℕ Hand) → me.0.past < me.0.workers → Allows (Kept batches workers) slots id me 0 (λ n. (n + 1) % 2 ^ 64) (drew (step slots 0 1 0 none) me)

-- a seat that has drawn nothing gives one of its workers to a new seat
abbrev pub SplitKeeps : Type 0
SplitKeeps = (batches workers id : ℕ) (v : Hand) → 0 < v.workers → v.drawn ≡ [] → v.past ≡ 0 → Splits (Kept batches workers) id v (hand (v.workers - 1) v.batches v.drawn v.past) (hand 1 v.batches [] 0)

-- a seat takes over the workers of another and what it has drawn
abbrev pub JoinKeeps : Type 0
JoinKeeps = (batches workers id : ℕ) (v : Hand) (other : ℕ) (w : Hand) → 0 < w.workers → Joins (Kept batches workers) id v other w (hand (v.workers + w.workers) w.batches (v.drawn ++ w.drawn) (v.past + w.past)) (hand 0 0 [] 0)

-- the seat that represents all workers reads the word
abbrev pub CountKeeps : Type 0
CountKeeps = (batches workers slots id : ℕ) (me : Me ℕ Hand) → me.0.workers ≡ workers → Allows (Kept batches workers) slots id me 0 (λ n. n) (counted (step slots 0 0 0 none) me)
