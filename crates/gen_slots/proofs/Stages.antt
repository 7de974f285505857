-- The readers' stages, and the number of readers at each stage.
use Rattle.std.proofs.Common.{◌≡◌, ◌≢◌, ℕ, zero, suc, ◌+◌, ◌<◌, ◌≤◌, refl, ap, ◌∙◌, arith, eq-eqb, ne_eqb, List, length, set, get_or-set_same, get_or-set_other}
use Rattle.std.specs.Prelude.{◌==◌, ◌&&◌, Bool, true, false, nat_lt, slice_index}
use Rattle.std.proofs.lemmas.Bool.Decides.{nat_tests}
use mathlib.Core.Logic.{dite}
use native.Mathlib.Decide.{ℕ_discrete}
use Rattle.history_laws.proofs.Views.{put, put_here, put_else}
use Rattle.gen_slots.specs.declared.board.Plan.{Plan}
use Rattle.gen_slots.specs.SlotRule.{tally, sum_below, count_at, count_inside, lags, laggards}
use Rattle.gen_slots.proofs.Sums.{sum_below-same, sum_below-at, sum_below-plus, sum_below-zero, sum_below-none, sum_below-tally}

-- how many readers pass a test after the reader r goes to the stage t
count-put : (n : ℕ) (test : ℕ → Bool) (f : ℕ → ℕ) (r t : ℕ) → r < n → sum_below n (λ j. tally (test (put f r t j))) + tally (test (f r)) ≡ sum_below n (λ j. tally (test (f j))) + tally (test t)
count-put n test f r t l = let here = ap (λ (z : ℕ). tally (test z)) (put_here f r t) in
    let all = sum_below-at n (λ j. tally (test (f j))) (λ j. tally (test (put f r t j))) r l (λ j other. ap (λ (z : ℕ). tally (test z)) (put_else f r t j other)) in omega (arith, here, all)

pub count_more : (n : ℕ) (f : ℕ → ℕ) (r u : ℕ) → r < n → f r ≢ u → count_at n (put f r u) u ≡ count_at n f u + 1
count_more n f r u l was = let c = count-put n (λ z. z == u) f r u l in let a = ap tally (ne_eqb (f r) u was) in let b = ap tally (eq-eqb u u refl) in omega (arith, a, b, c)

pub count_less : (n : ℕ) (f : ℕ → ℕ) (r t u : ℕ) → r < n → f r ≡ u → t ≢ u → count_at n (put f r t) u + 1 ≡ count_at n f u
count_less n f r t u l was now = let c = count-put n (λ z. z == u) f r t l in let a = ap tally (eq-eqb (f r) u was) in let b = ap tally (ne_eqb t u now) in omega (arith, a, b, c)

pub count_kept : (n : ℕ) (f : ℕ → ℕ) (r t u : ℕ) → r < n → f r ≢ u → t ≢ u → count_at n (put f r t) u ≡ count_at n f u
count_kept n f r t u l was now = let c = count-put n (λ z. z == u) f r t l in let a = ap tally (ne_eqb (f r) u was) in let b = ap tally (ne_eqb t u now) in omega (arith, a, b, c)

pub count_le : (n : ℕ) (f : ℕ → ℕ) (u : ℕ) → count_at n f u ≤ n
count_le n f u = sum_below-tally n (λ r. f r == u)

-- no reader is at a stage whose count is 0
pub count_none : (n : ℕ) (f : ℕ → ℕ) (u r : ℕ) → count_at n f u ≡ 0 → r < n → f r ≢ u
count_none n f u r none l e = let a = sum_below-none n (λ j. tally (f j == u)) r none l in let b = ap tally (eq-eqb (f r) u e) in absurd (omega (arith, a, b))

pub count_start : (n u : ℕ) → 0 < u → count_at n (λ _. 0) u ≡ 0
count_start n u l = sum_below-zero n (λ j. tally (0 == u)) (λ j _. ap tally (ne_eqb 0 u (λ e. omega arith)))

nat_lt-yes : (i n : ℕ) → i < n → nat_lt i n ≡ true
nat_lt-yes i n l = grind (arith, nat_tests)

nat_lt-no : (i n : ℕ) → n ≤ i → nat_lt i n ≡ false
nat_lt-no i n l = grind (arith, nat_tests)

-- a reader enters, leaves, or is made
pub inside_more : (n : ℕ) (f : ℕ → ℕ) (r t : ℕ) → r < n → f r ≤ 1 → 1 < t → count_inside n (put f r t) ≡ count_inside n f + 1
inside_more n f r t l was now = let c = count-put n (nat_lt 1) f r t l in let a = ap tally (nat_lt-no 1 (f r) was) in let b = ap tally (nat_lt-yes 1 t now) in omega (arith, a, b, c)

pub inside_less : (n : ℕ) (f : ℕ → ℕ) (r t : ℕ) → r < n → 1 < f r → t ≤ 1 → count_inside n (put f r t) + 1 ≡ count_inside n f
inside_less n f r t l was now = let c = count-put n (nat_lt 1) f r t l in let a = ap tally (nat_lt-yes 1 (f r) was) in let b = ap tally (nat_lt-no 1 t now) in omega (arith, a, b, c)

pub inside_kept : (n : ℕ) (f : ℕ → ℕ) (r t : ℕ) → r < n → f r ≤ 1 → t ≤ 1 → count_inside n (put f r t) ≡ count_inside n f
inside_kept n f r t l was now = let c = count-put n (nat_lt 1) f r t l in let a = ap tally (nat_lt-no 1 (f r) was) in let b = ap tally (nat_lt-no 1 t now) in omega (arith, a, b, c)

pub inside_start : (n : ℕ) → count_inside n (λ _. 0) ≡ 0
inside_start n = sum_below-zero n (λ j. tally (nat_lt 1 0)) (λ j _. refl)

pub and_first : (a b : Bool) → a ≡ false → (a && b) ≡ false
and_first a b e = ap (λ (z : Bool). z && b) e

pub and_second : (a b : Bool) → b ≡ false → (a && b) ≡ false
and_second true b e = e
and_second false b e = refl

pub and_both : (a b : Bool) → a ≡ true → b ≡ true → (a && b) ≡ true
and_both a b e f = λ i. e i && f i

-- one more slot was tried
pub tried_more : (t : List ℕ) (i q : ℕ) → i < length t → ((k : ℕ) → k < i → k ≢ q → slice_index t k ≡ 1) → (k : ℕ) → k < i + 1 → k ≢ q → slice_index (set t i 1) k ≡ 1
tried_more t i q l each k low other = dite (ℕ_discrete k i) (λ same. ap (slice_index (set t i 1)) same ∙ get_or-set_same t i 1 0 l) (λ apart. get_or-set_other t i k 1 0 apart ∙ each k (omega arith) other)

module _ {X : Type 0} where
  pub lags-at : (p : Plan X) (k : ℕ) → lags p (k + 2) ≡ ((slice_index p.standing k == 1) && (slice_index p.tried k == 0))
  lags-at p k = let e : k + 2 ≡ suc (suc k) = omega arith in ap (lags p) e

  -- a reader that goes to a stage at which it doesn't lag adds no laggard
  pub laggards_less : (n : ℕ) (p : Plan X) (f : ℕ → ℕ) (r t : ℕ) → r < n → lags p t ≡ false → laggards n p (put f r t) ≤ laggards n p f
  laggards_less n p f r t l e = let c = count-put n (lags p) f r t l in let a = ap tally e in omega (arith, a, c)

  pub laggards_le : (n : ℕ) (p : Plan X) (f : ℕ → ℕ) → laggards n p f ≤ n
  laggards_le n p f = sum_below-tally n (λ r. lags p (f r))

  pub laggards_start : (n : ℕ) (p : Plan X) → laggards n p (λ _. 0) ≡ 0
  laggards_start n p = sum_below-zero n (λ j. tally (lags p 0)) (λ j _. refl)

  -- two plans that are equal but for the slot s
  pub lags_else : (p p' : Plan X) (s t : ℕ) → t ≢ s + 2 → ((k : ℕ) → k ≢ s → slice_index p'.standing k ≡ slice_index p.standing k) → ((k : ℕ) → k ≢ s → slice_index p'.tried k ≡ slice_index p.tried k) → lags p' t ≡ lags p t
  lags_else p p' s zero apart same tries = refl
  lags_else p p' s (suc zero) apart same tries = refl
  lags_else p p' s (suc (suc k)) apart same tries = let other : k ≢ s = (λ e. apart (omega arith)) in λ i. (same k other i == 1) && (tries k other i == 0)

  pub laggards_plan : (n : ℕ) (p p' : Plan X) (f : ℕ → ℕ) → ((r : ℕ) → r < n → lags p' (f r) ≡ lags p (f r)) → laggards n p' f ≡ laggards n p f
  laggards_plan n p p' f same = sum_below-same n (λ r. tally (lags p' (f r))) (λ r. tally (lags p (f r))) (λ r l. ap tally (same r l))

  -- readers of the slot s no longer lag
  pub laggards_drop : (n : ℕ) (p p' : Plan X) (f : ℕ → ℕ) (s : ℕ) → lags p (s + 2) ≡ true → lags p' (s + 2) ≡ false → ((t : ℕ) → t ≢ s + 2 → lags p' t ≡ lags p t)
      → laggards n p' f + count_at n f (s + 2) ≡ laggards n p f
  laggards_drop n p p' f s was now same = sum_below-plus n (λ r. tally (lags p' (f r))) (λ r. tally (f r == s + 2)) (λ r. tally (lags p (f r))) (λ r l. dite (ℕ_discrete (f r) (s + 2))
      (λ e. let a = ap tally (ap (lags p) e ∙ was) in let b = ap tally (ap (lags p') e ∙ now) in let c = ap tally (eq-eqb (f r) (s + 2) e) in omega (arith, a, b, c))
      (λ other. let a = ap tally (same (f r) other) in let c = ap tally (ne_eqb (f r) (s + 2) other) in omega (arith, a, c)))
