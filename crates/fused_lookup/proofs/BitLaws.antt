-- The next set bit of a word.
use Rattle.std.proofs.Common.{◌≡◌, refl, subst, sym, ◌∙◌, ap, ℕ, zero, suc, ◌+◌, ◌-◌, ◌/◌, ◌^◌, ◌<◌, ◌≤◌, ◌≢◌, ◌⊎◌, Bool, true, false, not, ◌==◌, arith, w64, inl, inr}
use Rattle.std.specs.Int.{bit_at, bit_not, trailing_zeros}
use Rattle.std.proofs.lemmas.Nat.Bits.{bit_at_not, bit_at-lt}
use Rattle.std.proofs.lemmas.Bool.{cases_lt}
use Rattle.std.proofs.Math.Nat.{div-le_self}
use Rattle.bit_rows.specs.Row.{bit}
use Rattle.bit_rows.proofs.Bits.{bit-shr, bit-zero, bit-above, lowest-bit}
use Rattle.fused_lookup.specs.Words.{IsNextBit, IsRunEnd}

pub no-bit : (word from : ℕ) → word / 2 ^ from ≡ 0 → (k : ℕ) → from ≤ k → bit word k ≡ false
no-bit word from none k low =
    let e : from + (k - from) ≡ k = omega arith in
    ap (bit word) (sym e) ∙ sym (bit-shr word from (k - from)) ∙ ap (λ x. bit x (k - from)) none ∙ bit-zero (k - from)

pub next-bit : (word from k : ℕ) → word < 2 ^ 64 → word / 2 ^ from ≢ 0 → k ≡ from + trailing_zeros w64 (word / 2 ^ from) → IsNextBit word from k
next-bit word from k small some is =
    let less = div-le_self word (2 ^ from) in
    let fits : word / 2 ^ from < 2 ^ 64 = omega arith in
    let low = lowest-bit (word / 2 ^ from) some fits in
    let t = trailing_zeros w64 (word / 2 ^ from) in
    let set : bit word (from + t) ≡ true = sym (bit-shr word from t) ∙ low.1 in
    subst (IsNextBit word from) (sym is) record {
      from_on = omega arith;
      within = inside (from + t) set (cases_lt (from + t) 64);
      set = set;
      least = λ j a b.
          let e : from + (j - from) ≡ j = omega arith in
          let l : j - from < t = omega arith in
          ap (bit word) (sym e) ∙ sym (bit-shr word from (j - from)) ∙ low.2 (j - from) l;
    } where
      inside : (k : ℕ) → bit word k ≡ true → (k < 64) ⊎ (64 ≤ k) → k < 64
      inside k set (inl l) = l
      inside k set (inr l) = let e : false ≡ true = sym (bit-above word k small l) ∙ set in absurd (cc e)

-- ---- the end of a run

not-one : (x : ℕ) → x < 2 → (1 - x == 1) ≡ not (x == 1)
not-one zero h = refl
not-one (suc zero) h = refl
not-one (suc (suc x)) h = absurd (omega arith)

bit-not : (word k : ℕ) → word < 2 ^ 64 → k < 64 → bit (bit_not w64 word) k ≡ not (bit word k)
unfolding bit
bit-not word k small h = ap (λ x. x == 1) (bit_at_not w64 word k small h) ∙ not-one (bit_at word k) (bit_at-lt word k)

was-set : (b : Bool) → not b ≡ false → b ≡ true
was-set true e = refl
was-set false e = sym e

run-set : (word from end k : ℕ) → word < 2 ^ 64 → ((j : ℕ) → from ≤ j → j < end → bit (bit_not w64 word) j ≡ false) → end ≤ 64 → from ≤ k → k < end → bit word k ≡ true
run-set word from end k small none within low high =
    let h : k < 64 = omega arith in
    was-set (bit word k) (sym (bit-not word k small h) ∙ none k low high)

pub run-ends : (word from end : ℕ) → word < 2 ^ 64 → bit word from ≡ true → IsNextBit (bit_not w64 word) from end → IsRunEnd word from end
run-ends word from end small set next = record {
  some = go (cases_lt from end);
  within = let h = next.within in omega arith;
  set = λ k low high. run-set word from end k small next.least (let h = next.within in omega arith) low high;
} where
  go : (from < end) ⊎ (end ≤ from) → from < end
  go (inl h) = h
  go (inr h) =
      let l = next.from_on in
      let w = next.within in
      let e : end ≡ from = omega arith in
      let small_end : end < 64 = w in
      let on : not (bit word end) ≡ true = sym (bit-not word end small small_end) ∙ next.set in
      let off : not (bit word end) ≡ false = ap (λ j. not (bit word j)) e ∙ ap not set in
      absurd (cc (on, off))

pub run-through : (word from : ℕ) → word < 2 ^ 64 → from < 64 → ((k : ℕ) → from ≤ k → k < 64 → bit (bit_not w64 word) k ≡ false) → IsRunEnd word from 64
run-through word from small within none = record { some = within; within = omega arith; set = λ k low high. run-set word from 64 k small none (omega arith) low high }
