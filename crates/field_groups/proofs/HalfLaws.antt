-- A group of eight bits as two of four.
use Rattle.std.proofs.Common.{◌≡◌, refl, sym, ◌∙◌, ap, ℕ, ◌+◌, ◌-◌, ◌*◌, ◌/◌, ◌%◌, ◌^◌, ◌<◌, ◌≤◌, ◌⊎◌, Bool, true, false, ◌&&◌, ◌==◌, arith, inl, inr}
use Rattle.std.proofs.lemmas.Bool.{cases_lt, eq-eqb}
use Rattle.std.proofs.lemmas.Nat.{shr-shr, field_of}
use Rattle.std.proofs.Math.Nat.{div-one}
use Rattle.field_groups.specs.Groups.{shift, group, free_in, agrees}
use Rattle.field_groups.specs.Laws.{AgreeingHalves}
use Rattle.field_groups.proofs.GroupLaws.{agrees-as, split-same}

-- the high and the low half of a group
high-half : (bits g value : ℕ) → 8 * (g + 1) ≤ bits → group 4 bits (2 * g) value ≡ group 8 bits g value / 2 ^ 4
high-half bits g value h =
    let s : shift 4 bits (2 * g) ≡ shift 8 bits g + 4 = omega arith in
    ap (λ n. value / 2 ^ n % 2 ^ 4) s ∙ ap (λ q. q % 2 ^ 4) (sym (shr-shr value (shift 8 bits g) 4)) ∙ sym (field_of (value / 2 ^ shift 8 bits g) 4 4)

low-half : (bits g value : ℕ) → 8 * (g + 1) ≤ bits → group 4 bits (2 * g + 1) value ≡ group 8 bits g value % 2 ^ 4
low-half bits g value h =
    let s : shift 4 bits (2 * g + 1) ≡ shift 8 bits g = omega arith in
    let n : ℕ = value / 2 ^ shift 8 bits g in
    let e : n % 2 ^ 4 ≡ n % 2 ^ 8 % 2 ^ 4 = omega arith in
    ap (λ k. value / 2 ^ k % 2 ^ 4) s ∙ e

-- A value agrees in a group of eight bits exactly if its halves agree in the groups of four.
pub agrees-halves : AgreeingHalves
agrees-halves bits g block v h small = go (cases_lt 4 (free_in 8 bits g block)) where
  b : ℕ
  b = group 8 bits g block.base

  two : {p q r t : Bool} → p ≡ q → r ≡ t → (p && r) ≡ (q && t)
  two x y = cc

  high_small : v / 2 ^ 4 < 2 ^ 4
  high_small = omega arith

  low_small : v % 2 ^ 4 < 2 ^ 4
  low_small = omega arith

  and_true : (p t : Bool) → t ≡ true → p ≡ (p && t)
  and_true true t e = sym e
  and_true false t e = refl

  high : agrees 4 bits block (2 * g) (v / 2 ^ 4) ≡ (v / 2 ^ 4 / 2 ^ free_in 4 bits (2 * g) block == group 8 bits g block.base / 2 ^ 4 / 2 ^ free_in 4 bits (2 * g) block)
  high = agrees-as 4 bits (2 * g) block (v / 2 ^ 4) high_small ∙ ap (λ x. v / 2 ^ 4 / 2 ^ free_in 4 bits (2 * g) block == x / 2 ^ free_in 4 bits (2 * g) block) (high-half bits g block.base h)

  low : agrees 4 bits block (2 * g + 1) (v % 2 ^ 4) ≡ (v % 2 ^ 4 / 2 ^ free_in 4 bits (2 * g + 1) block == group 8 bits g block.base % 2 ^ 4 / 2 ^ free_in 4 bits (2 * g + 1) block)
  low = agrees-as 4 bits (2 * g + 1) block (v % 2 ^ 4) low_small ∙ ap (λ x. v % 2 ^ 4 / 2 ^ free_in 4 bits (2 * g + 1) block == x / 2 ^ free_in 4 bits (2 * g + 1) block) (low-half bits g block.base h)

  go : (4 < free_in 8 bits g block) ⊎ (free_in 8 bits g block ≤ 4) → agrees 8 bits block g v ≡ (agrees 4 bits block (2 * g) (v / 2 ^ 4) && agrees 4 bits block (2 * g + 1) (v % 2 ^ 4))
  go (inl l) =
      let k1 : free_in 8 bits g block ≡ 4 + free_in 4 bits (2 * g) block = omega arith in
      let k2 : free_in 4 bits (2 * g + 1) block ≡ 4 = omega arith in
      let x : v / 2 ^ free_in 8 bits g block ≡ v / 2 ^ 4 / 2 ^ free_in 4 bits (2 * g) block = ap (λ n. v / 2 ^ n) k1 ∙ sym (shr-shr v 4 (free_in 4 bits (2 * g) block)) in
      let y : group 8 bits g block.base / 2 ^ free_in 8 bits g block ≡ group 8 bits g block.base / 2 ^ 4 / 2 ^ free_in 4 bits (2 * g) block =
      ap (λ n. group 8 bits g block.base / 2 ^ n) k1 ∙ sym (shr-shr (group 8 bits g block.base) 4 (free_in 4 bits (2 * g) block)) in
      let none : agrees 4 bits block (2 * g + 1) (v % 2 ^ 4) ≡ true =
      low ∙ ap (λ n. v % 2 ^ 4 / 2 ^ n == group 8 bits g block.base % 2 ^ 4 / 2 ^ n) k2 ∙ eq-eqb (v % 2 ^ 4 / 2 ^ 4) (group 8 bits g block.base % 2 ^ 4 / 2 ^ 4) (omega arith) in
      agrees-as 8 bits g block v small ∙ same x y ∙ sym high ∙ and_true (agrees 4 bits block (2 * g) (v / 2 ^ 4)) (agrees 4 bits block (2 * g + 1) (v % 2 ^ 4)) none where
        same : {p q r t : ℕ} → p ≡ q → r ≡ t → (p == r) ≡ (q == t)
        same e f = cc
  go (inr l) =
      let k1 : free_in 4 bits (2 * g) block ≡ 0 = omega arith in
      let k2 : free_in 4 bits (2 * g + 1) block ≡ free_in 8 bits g block = omega arith in
      agrees-as 8 bits g block v small ∙ split-same (v / 2 ^ free_in 8 bits g block) (group 8 bits g block.base / 2 ^ free_in 8 bits g block) (4 - free_in 8 bits g block)
      ∙ two (same (top v (free_in 8 bits g block) l) (top (group 8 bits g block.base) (free_in 8 bits g block) l)) (same (part v (free_in 8 bits g block) l) (part (group 8 bits g block.base) (free_in 8 bits g block) l))
      ∙ sym (two (high ∙ ap (λ n. v / 2 ^ 4 / 2 ^ n == group 8 bits g block.base / 2 ^ 4 / 2 ^ n) k1) (low ∙ ap (λ n. v % 2 ^ 4 / 2 ^ n == group 8 bits g block.base % 2 ^ 4 / 2 ^ n) k2)) where
        same : {p q r t : ℕ} → p ≡ q → r ≡ t → (p == r) ≡ (q == t)
        same e f = cc

        top : (x k : ℕ) → k ≤ 4 → x / 2 ^ k / 2 ^ (4 - k) ≡ x / 2 ^ 4 / 2 ^ 0
        top x k m =
            let e : k + (4 - k) ≡ 4 = omega arith in
            shr-shr x k (4 - k) ∙ ap (λ n. x / 2 ^ n) e ∙ sym (div-one (x / 2 ^ 4))

        part : (x k : ℕ) → k ≤ 4 → x / 2 ^ k % 2 ^ (4 - k) ≡ x % 2 ^ 4 / 2 ^ k
        part x k m =
            let e : (4 - k) + k ≡ 4 = omega arith in
            sym (field_of x (4 - k) k) ∙ ap (λ n. x % 2 ^ n / 2 ^ k) e
