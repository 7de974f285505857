-- Tests over a range of numbers.
use Rattle.std.proofs.Common.{◌≡◌, refl, sym, ◌∙◌, ap, ℕ, zero, suc, ◌+◌, ◌<◌, ◌≤◌, ◌⊎◌, Bool, true, false, ◌&&◌, ◌||◌, arith, inl, inr}
use Rattle.std.proofs.lemmas.Bool.{cases_lt}
use Rattle.std.proofs.Math.Bool.{or-true}
use Rattle.field_groups.specs.Groups.{every, some_from}

pub every-same : (p q : ℕ → Bool) (n : ℕ) → ((k : ℕ) → k < n → p k ≡ q k) → every p n ≡ every q n
every-same p q zero same = refl
every-same p q (suc n) same = two (every-same p q n (λ k h. same k (omega arith))) (same n (omega arith)) where
  two : {a b c d : Bool} → a ≡ b → c ≡ d → (a && c) ≡ (b && d)
  two x y = cc

-- what fails for the first n numbers fails for more
pub every-fails : (p : ℕ → Bool) (n m : ℕ) (t : Bool) → n ≤ m → (t && every p n) ≡ false → (t && every p m) ≡ false
every-fails p n zero t h e = let none : n ≡ 0 = omega arith in ap (λ x. t && every p x) (sym none) ∙ e
every-fails p n (suc m) t h e = go (cases_lt m n) (λ l. every-fails p n m t l e) where
  weaker : (a b c : Bool) → (a && b) ≡ false → (a && (b && c)) ≡ false
  weaker true true c f = absurd (cc f)
  weaker true false c f = refl
  weaker false b c f = refl

  go : (m < n) ⊎ (n ≤ m) → (n ≤ m → (t && every p m) ≡ false) → (t && every p (suc m)) ≡ false
  go (inl l) ih = ap (λ x. t && every p x) (let same : suc m ≡ n = omega arith in same) ∙ e
  go (inr l) ih = weaker t (every p m) (p m) (ih l)

pub some-same : (p q : ℕ → Bool) (from n : ℕ) → ((k : ℕ) → k < n → p (from + k) ≡ q (from + k)) → some_from p from n ≡ some_from q from n
some-same p q from zero same = refl
some-same p q from (suc n) same = two (some-same p q from n (λ k h. same k (omega arith))) (same n (omega arith)) where
  two : {a b c d : Bool} → a ≡ b → c ≡ d → (a || c) ≡ (b || d)
  two x y = cc

pub some-moved : (p q : ℕ → Bool) (by from n : ℕ) → ((k : ℕ) → from ≤ k → k < from + n → p (by + k) ≡ q k) → some_from p (by + from) n ≡ some_from q from n
some-moved p q by from zero same = refl
some-moved p q by from (suc n) same =
    let place : by + from + n ≡ by + (from + n) = omega arith in
    two (some-moved p q by from n (λ k a b. same k a (omega arith))) (ap p place ∙ same (from + n) (omega arith) (omega arith)) where
      two : {a b c d : Bool} → a ≡ b → c ≡ d → (a || c) ≡ (b || d)
      two x y = cc

pub some-false : (p : ℕ → Bool) (from n : ℕ) → ((k : ℕ) → k < n → p (from + k) ≡ false) → some_from p from n ≡ false
some-false p from zero none = refl
some-false p from (suc n) none = both_fail (some-false p from n (λ k h. none k (omega arith))) (none n (omega arith)) where
  both_fail : {a b : Bool} → a ≡ false → b ≡ false → (a || b) ≡ false
  both_fail e f = cc

pub some-true : (p : ℕ → Bool) (from n k : ℕ) → k < n → p (from + k) ≡ true → some_from p from n ≡ true
some-true p from zero k h e = absurd (omega arith)
some-true p from (suc n) k h e = go (cases_lt k n) (λ l. some-true p from n k l e) where
  left : (a b : Bool) → a ≡ true → (a || b) ≡ true
  left a b f = ap (λ t. t || b) f

  right : (a b : Bool) → b ≡ true → (a || b) ≡ true
  right a b f = ap (λ t. a || t) f ∙ or-true a

  go : (k < n) ⊎ (n ≤ k) → (k < n → some_from p from n ≡ true) → (some_from p from n || p (from + n)) ≡ true
  go (inl l) ih = left (some_from p from n) (p (from + n)) (ih l)
  go (inr l) ih = right (some_from p from n) (p (from + n)) (ap (λ x. p (from + x)) (let same : n ≡ k = omega arith in same) ∙ e)

pub some-one : (p : ℕ → Bool) (from : ℕ) → some_from p from 1 ≡ p from
some-one p from = ap p (let e : from + 0 ≡ from = omega arith in e)
