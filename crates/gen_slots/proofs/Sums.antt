-- Sums below a number, if the function changes in one place.
use Rattle.std.proofs.Common.{◌≡◌, ◌≢◌, ℕ, zero, suc, ◌+◌, ◌<◌, ◌≤◌, refl, ap, arith, List, length, set, replicate, get_or-set_same, get_or-set_other}
use Rattle.std.specs.Prelude.{Bool, true, false, slice_index}
use mathlib.Core.Logic.{dite}
use native.Mathlib.Decide.{ℕ_discrete}
use Rattle.gen_slots.specs.SlotRule.{tally, sum_below}

pub sum_below-same : (n : ℕ) (f g : ℕ → ℕ) → ((j : ℕ) → j < n → f j ≡ g j) → sum_below n f ≡ sum_below n g
sum_below-same zero f g same = refl
sum_below-same (suc n) f g same = let rest = sum_below-same n f g (λ j l. same j (omega arith)) in let here = same n (omega arith) in omega (arith, rest, here)

-- f and g are equal but at i
pub sum_below-at : (n : ℕ) (f g : ℕ → ℕ) (i : ℕ) → i < n → ((j : ℕ) → j ≢ i → g j ≡ f j) → sum_below n g + f i ≡ sum_below n f + g i
sum_below-at zero f g i l same = absurd (omega arith)
sum_below-at (suc n) f g i l same = dite (ℕ_discrete n i)
    (λ e. let a = ap f e in let b = ap g e in let rest = sum_below-same n g f (λ j below. same j (λ z. omega arith)) in omega (arith, a, b, rest))
    (λ other. let here = same n other in let rest = sum_below-at n f g i (omega arith) same in omega (arith, here, rest))

pub sum_below-plus : (n : ℕ) (f g h : ℕ → ℕ) → ((j : ℕ) → j < n → f j + g j ≡ h j) → sum_below n f + sum_below n g ≡ sum_below n h
sum_below-plus zero f g h same = refl
sum_below-plus (suc n) f g h same = let rest = sum_below-plus n f g h (λ j l. same j (omega arith)) in let here = same n (omega arith) in omega (arith, rest, here)

pub sum_below-le : (n : ℕ) (f g : ℕ → ℕ) → ((j : ℕ) → j < n → f j ≤ g j) → sum_below n f ≤ sum_below n g
sum_below-le zero f g le = omega arith
sum_below-le (suc n) f g le = let rest = sum_below-le n f g (λ j l. le j (omega arith)) in let here = le n (omega arith) in omega (arith, rest, here)

pub sum_below-zero : (n : ℕ) (f : ℕ → ℕ) → ((j : ℕ) → j < n → f j ≡ 0) → sum_below n f ≡ 0
sum_below-zero zero f none = refl
sum_below-zero (suc n) f none = let rest = sum_below-zero n f (λ j l. none j (omega arith)) in let here = none n (omega arith) in omega (arith, rest, here)

-- if the sum is 0, each part is 0
pub sum_below-none : (n : ℕ) (f : ℕ → ℕ) (r : ℕ) → sum_below n f ≡ 0 → r < n → f r ≡ 0
sum_below-none zero f r none l = absurd (omega arith)
sum_below-none (suc n) f r none l = dite (ℕ_discrete r n) (λ same. let a = ap f same in omega (arith, a, none)) (λ other. sum_below-none n f r (omega (arith, none)) (omega arith))

pub tally_le : (b : Bool) → tally b ≤ 1
tally_le true = omega arith
tally_le false = omega arith

-- a sum of tests is at most their number
pub sum_below-tally : (n : ℕ) (test : ℕ → Bool) → sum_below n (λ r. tally (test r)) ≤ n
sum_below-tally zero test = omega arith
sum_below-tally (suc n) test = let rest = sum_below-tally n test in let here = tally_le (test n) in omega (arith, rest, here)

-- a sum whose parts are all 1 but one
pub sum_below-most : (m : ℕ) (f : ℕ → ℕ) (q : ℕ) → ((k : ℕ) → k < m → k ≢ q → f k ≡ 1) → m ≤ sum_below m f + 1
sum_below-most zero f q each = omega arith
sum_below-most (suc m) f q each = dite (ℕ_discrete m q)
    (λ same. let rest = sum_all m (λ k l. each k (omega arith) (λ e. omega arith)) in omega (arith, rest))
    (λ other. let a = each m (omega arith) other in let rest = sum_below-most m f q (λ k l. each k (omega arith)) in omega (arith, a, rest))
  where
    sum_all : (m : ℕ) → ((k : ℕ) → k < m → f k ≡ 1) → m ≤ sum_below m f
    sum_all zero each = omega arith
    sum_all (suc m) each = let a = each m (omega arith) in let rest = sum_all m (λ k l. each k (omega arith)) in omega (arith, a, rest)

-- the same for the entries of a list, if one entry is written
pub sum_below-set : (m : ℕ) (t : List ℕ) (s v : ℕ) → s < m → s < length t → sum_below m (slice_index (set t s v)) + slice_index t s ≡ sum_below m (slice_index t) + v
sum_below-set m t s v l in_t = let here = get_or-set_same t s v 0 in_t in let all = sum_below-at m (slice_index t) (slice_index (set t s v)) s l (λ j other. get_or-set_other t s j v 0 other) in omega (arith, here, all)

pub zero_at : (n i : ℕ) → slice_index (replicate {A = ℕ} n 0) i ≡ 0
zero_at zero i = refl
zero_at (suc n) zero = refl
zero_at (suc n) (suc i) = zero_at n i

pub sum_below-zeros : (m n : ℕ) → sum_below m (slice_index (replicate {A = ℕ} n 0)) ≡ 0
sum_below-zeros m n = sum_below-zero m (slice_index (replicate {A = ℕ} n 0)) (λ j _. zero_at n j)
