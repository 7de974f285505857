-- The rule of the counter from which workers draw the numbers of batches, and what each kind of step
-- returns.
use Rattle.std.specs.Prelude.{◌≡◌, ℕ, ◌+◌, ◌^◌, ◌<◌, ◌≤◌, ◌==◌, nat_lt, cond, List, [], ◌∷◌, ◌++◌, length, slice_index, sum_by, count_by}
use mathlib.Core.Option.{some}
use lib.ListN.{get_elem?}
use Rattle.atomic_table.specs.Table.{State, Me, Step}
use Rattle.packet_pool.specs.declared.counter.Hand.{Hand}

-- how often the list has x
abbrev pub times : ℕ → List ℕ → ℕ
times x xs = count_by (λ y. y == x) xs

-- 1 if x is below n, and else 0
abbrev pub once_below : ℕ → ℕ → ℕ
once_below x n = cond (nat_lt x n) 1 0

abbrev pub hand : ℕ → ℕ → List ℕ → ℕ → Hand
hand workers batches drawn past = record { workers = workers; batches = batches; drawn = drawn; past = past }

-- A seat has drawn at most one number past the batches for each worker that it represents. A seat that
-- represents none has drawn nothing.
pub record Sits (batches : ℕ) (v : Hand) : Type 0 where
  pub few_past : v.past ≤ v.workers
  pub idle : v.workers ≡ 0 → v.drawn ≡ []
  pub told : 0 < v.workers → v.batches ≡ batches

-- What holds between any two steps: each number below the word was drawn once, and no other number was.
-- The word passes the number of batches by no more than the count of numbers drawn past them.
pub record Kept (batches workers : ℕ) (s : State ℕ Hand) : Type 0 where
  pub one_word : length s.words ≡ 1
  pub room : batches + workers < 2 ^ 64
  pub whole : sum_by (λ v. v.workers) s.views ≡ workers
  pub once : (x : ℕ) → sum_by (λ v. times x v.drawn) s.views ≡ once_below x (slice_index s.words 0)
  pub few_past : slice_index s.words 0 ≤ batches + sum_by (λ v. v.past) s.views
  pub each_seat : (j : ℕ) (v : Hand) → get_elem? s.views j ≡ some v → Sits batches v

-- A draw: the number follows those that the seat drew before, which are lower. It counts as past unless
-- it is a batch's number.
abbrev pub drew : Step ℕ → Me ℕ Hand → ℕ → Me ℕ Hand → Type 0
drew st m n m' = (m'.1 ≡ m.1) × ((past : ℕ) × (m'.0 ≡ hand m.0.workers m.0.batches (m.0.drawn ++ n ∷ []) past) × (n < m.0.batches → past ≡ m.0.past))
    × ((x : ℕ) → 0 < times x m.0.drawn → x < n)

-- A read by the seat that represents all workers: it has drawn each number below the word once.
abbrev pub counted : Step ℕ → Me ℕ Hand → ℕ → Me ℕ Hand → Type 0
counted st m n m' = (x : ℕ) → times x m.0.drawn ≡ once_below x n
