-- A block holds a value exactly if all groups agree.
use Rattle.std.proofs.Common.{◌≡◌, refl, sym, ◌∙◌, ap, ℕ, zero, suc, ◌+◌, ◌-◌, ◌*◌, ◌/◌, ◌%◌, ◌^◌, ◌<◌, ◌≤◌, ◌⊎◌, max, Bool, true, ◌&&◌, ◌==◌, nat_le, nat_lt, bit_and, arith, inl, inr}
use Rattle.std.proofs.lemmas.Bool.{cases_lt, cases_eq, cases_order, lt-leb, le-leb, lt-ltb, le-ltb, eq-eqb, ne_eqb}
use Rattle.std.proofs.lemmas.Nat.{pow_pos, pow_below, shl-shr, shr-shr, field_of, and_mask, one_shl, div-add-mod', mod_below}
use Rattle.std.proofs.lemmas.Nat.Bits.{and_high_mask}
use Rattle.std.proofs.Math.Bool.{and-true, and-false}
use Rattle.std.proofs.Math.Nat.{div-eq_of_lt, mul-le-mul_right}
use Rattle.std.proofs.Math.Pow.{pow_mono}
use Rattle.set_model.specs.declared.block.Block.{Block}
use Rattle.set_model.specs.Blocks.{IsWithin}
use Rattle.field_groups.specs.Groups.{IsWidth, shift, group, free_in, agrees, every}
use Rattle.field_groups.specs.Laws.{HeldByGroups}

-- ---- the code's masks

masked : (value s width n : ℕ) → width < n → bit_and (value / 2 ^ s) (1 * 2 ^ width % 2 ^ n - 1) ≡ value / 2 ^ s % 2 ^ width
masked value s width n h = ap (λ m. bit_and (value / 2 ^ s) (m - 1)) (one_shl width n h) ∙ and_mask (value / 2 ^ s) width

pub group-mask : (value s width : ℕ) → width < 128 → bit_and (value / 2 ^ s) (1 * 2 ^ width % 2 ^ 128 - 1) ≡ value / 2 ^ s % 2 ^ width
group-mask value s width h = masked value s width 128 h

pub short-mask : (value s width : ℕ) → width < 64 → bit_and (value / 2 ^ s) (1 * 2 ^ width % 2 ^ 64 - 1) ≡ value / 2 ^ s % 2 ^ width
short-mask value s width h = masked value s width 64 h

pub fixed-fits : (width k : ℕ) → width < 32 → k ≤ width → 1 * 2 ^ k % 2 ^ 32 ≤ 1 * 2 ^ width % 2 ^ 32
fixed-fits width k small h = rw (one_shl k 32 (omega arith), one_shl width 32 small) (pow_mono {i = k} {j = width} h)

pub ruleset masks = (group-mask, short-mask, fixed-fits)

-- ---- numbers and their high parts

pub free_below : (a b : ℕ) → 2 ^ a ≤ 2 ^ b → a ≤ b
free_below a b h = elim (cases_lt b a) [ inl l ↦ let q : 2 ^ b < 2 ^ a = pow_below b a l in absurd (omega arith) | inr l ↦ l ]

-- a block has no more free bits than the field has bits
pub free-within : (bits : ℕ) (block : Block) → IsWithin bits block → block.free_bits ≤ bits
free-within bits block within = let b = within.below in free_below block.free_bits bits (omega arith)

pub base-below : (bits : ℕ) (block : Block) → IsWithin bits block → block.base < 2 ^ bits
base-below bits block within = let b = within.below in let p : 0 < 2 ^ block.free_bits = pow_pos block.free_bits in omega arith

-- two groups agree on their high bits exactly if what is left without the low bits is equal
pub same-high : (w k x y : ℕ) → k ≤ w → x < 2 ^ w → y < 2 ^ w → (bit_and x (2 ^ w - 2 ^ k) == bit_and y (2 ^ w - 2 ^ k)) ≡ (x / 2 ^ k == y / 2 ^ k)
same-high w k x y h a b =
    rw (and_high_mask w k h x a, and_high_mask w k h y b) (go (cases_eq (x / 2 ^ k) (y / 2 ^ k))) where
      same_factor : (q r : ℕ) → q * 2 ^ k ≡ r * 2 ^ k → q ≡ r
      same_factor q r f = sym (shl-shr q k) ∙ ap (λ n. n / 2 ^ k) f ∙ shl-shr r k

      go : (x / 2 ^ k ≡ y / 2 ^ k) ⊎ (x / 2 ^ k ≡ y / 2 ^ k → ⊥) → (x / 2 ^ k * 2 ^ k == y / 2 ^ k * 2 ^ k) ≡ (x / 2 ^ k == y / 2 ^ k)
      go (inl e) = eq-eqb (x / 2 ^ k * 2 ^ k) (y / 2 ^ k * 2 ^ k) (ap (λ q. q * 2 ^ k) e) ∙ sym (eq-eqb (x / 2 ^ k) (y / 2 ^ k) e)
      go (inr e) =
          ne_eqb (x / 2 ^ k * 2 ^ k) (y / 2 ^ k * 2 ^ k) (λ f. e (same_factor (x / 2 ^ k) (y / 2 ^ k) f)) ∙ sym (ne_eqb (x / 2 ^ k) (y / 2 ^ k) e)

-- two numbers are equal exactly if their high parts and their low parts are
pub split-same : (x y j : ℕ) → (x == y) ≡ ((x / 2 ^ j == y / 2 ^ j) && (x % 2 ^ j == y % 2 ^ j))
split-same x y j = go (cases_eq (x / 2 ^ j) (y / 2 ^ j)) (cases_eq (x % 2 ^ j) (y % 2 ^ j)) where
  joined : x / 2 ^ j ≡ y / 2 ^ j → x % 2 ^ j ≡ y % 2 ^ j → x ≡ y
  joined a b = sym (div-add-mod' x (2 ^ j)) ∙ ap (λ q. q * 2 ^ j + x % 2 ^ j) a ∙ ap (λ r. y / 2 ^ j * 2 ^ j + r) b ∙ div-add-mod' y (2 ^ j)

  both_true : {p q : Bool} → p ≡ true → q ≡ true → (p && q) ≡ true
  both_true e f = cc

  go : (x / 2 ^ j ≡ y / 2 ^ j) ⊎ (x / 2 ^ j ≡ y / 2 ^ j → ⊥) → (x % 2 ^ j ≡ y % 2 ^ j) ⊎ (x % 2 ^ j ≡ y % 2 ^ j → ⊥) → (x == y) ≡ ((x / 2 ^ j == y / 2 ^ j) && (x % 2 ^ j == y % 2 ^ j))
  go (inl a) (inl b) = eq-eqb x y (joined a b) ∙ sym (both_true (eq-eqb (x / 2 ^ j) (y / 2 ^ j) a) (eq-eqb (x % 2 ^ j) (y % 2 ^ j) b))
  go (inl a) (inr b) =
      ne_eqb x y (λ e. b (ap (λ n. n % 2 ^ j) e))
      ∙ sym (ap (λ t. (x / 2 ^ j == y / 2 ^ j) && t) (ne_eqb (x % 2 ^ j) (y % 2 ^ j) b) ∙ and-false (x / 2 ^ j == y / 2 ^ j))
  go (inr a) b =
      ne_eqb x y (λ e. a (ap (λ n. n / 2 ^ j) e)) ∙ sym (ap (λ t. t && (x % 2 ^ j == y % 2 ^ j)) (ne_eqb (x / 2 ^ j) (y / 2 ^ j) a))

-- Without its free bits a block is one number.
pub held-high : (base free value : ℕ) → base % 2 ^ free ≡ 0 → (value / 2 ^ free == base / 2 ^ free) ≡ (nat_le base value && nat_lt value (base + 2 ^ free))
held-high base free value aligned = go (cases_lt value base) (cases_lt value (base + 2 ^ free)) where
  base_is : base / 2 ^ free * 2 ^ free + base % 2 ^ free ≡ base
  base_is = div-add-mod' base (2 ^ free)

  value_is : value / 2 ^ free * 2 ^ free + value % 2 ^ free ≡ value
  value_is = div-add-mod' value (2 ^ free)

  rest : value % 2 ^ free < 2 ^ free
  rest = mod_below value (2 ^ free) (pow_pos free)

  both_true : {p q : Bool} → p ≡ true → q ≡ true → (p && q) ≡ true
  both_true e f = cc

  go : (value < base) ⊎ (base ≤ value) → (value < base + 2 ^ free) ⊎ (base + 2 ^ free ≤ value)
      → (value / 2 ^ free == base / 2 ^ free) ≡ (nat_le base value && nat_lt value (base + 2 ^ free))
  go (inl h) b =
      ne_eqb (value / 2 ^ free) (base / 2 ^ free) (λ e. let f = ap (λ q. q * 2 ^ free) e in omega (arith, base_is, value_is, rest))
      ∙ sym (ap (λ t. t && nat_lt value (base + 2 ^ free)) (lt-leb base value h))
  go (inr h) (inl b) =
      eq-eqb (value / 2 ^ free) (base / 2 ^ free) (same (value / 2 ^ free) (base / 2 ^ free) (2 ^ free) (omega (arith, base_is, value_is, rest)) (omega (arith, base_is, value_is, rest)))
      ∙ sym (both_true (le-leb base value h) (lt-ltb value (base + 2 ^ free) b)) where
        same : (q r m : ℕ) → q * m < r * m + m → r * m < q * m + m → q ≡ r
        same q r m a b = elim (cases_order q r) [
          | inl e ↦ e
          | inr o ↦ elim o [
            | inl l ↦ absurd (omega (arith, mul-le-mul_right {m = q + 1} {n = r} m (omega arith)))
            | inr l ↦ absurd (omega (arith, mul-le-mul_right {m = r + 1} {n = q} m (omega arith)))
          ]
        ]
  go (inr h) (inr b) =
      ne_eqb (value / 2 ^ free) (base / 2 ^ free) (λ e. let f = ap (λ q. q * 2 ^ free) e in omega (arith, base_is, value_is, rest))
      ∙ sym (ap (λ t. nat_le base value && t) (le-ltb value (base + 2 ^ free) b) ∙ and-false (nat_le base value))

-- ---- one group

pub group-below : (width bits g value : ℕ) → group width bits g value < 2 ^ width
group-below width bits g value = mod_below (value / 2 ^ shift width bits g) (2 ^ width) (pow_pos width)

-- what a group has above its k lowest bits
group-high : (width bits g value k : ℕ) → k ≤ width → group width bits g value / 2 ^ k ≡ value / 2 ^ (shift width bits g + k) % 2 ^ (width - k)
group-high width bits g value k h =
    let e : width ≡ width - k + k = omega arith in
    ap (λ w. value / 2 ^ shift width bits g % 2 ^ w / 2 ^ k) e ∙ field_of (value / 2 ^ shift width bits g) (width - k) k
    ∙ ap (λ n. n % 2 ^ (width - k)) (shr-shr value (shift width bits g) k)

-- a value of a group agrees if it equals the base's group above the free bits
pub agrees-as : (width bits g : ℕ) (block : Block) (v : ℕ) → v < 2 ^ width
    → agrees width bits block g v ≡ (v / 2 ^ free_in width bits g block == group width bits g block.base / 2 ^ free_in width bits g block)
unfolding agrees
agrees-as width bits g block v h =
    same-high width (free_in width bits g block) v (group width bits g block.base) (omega arith) h (group-below width bits g block.base)

-- the base's own group agrees
pub agrees-own : (width bits g : ℕ) (block : Block) → agrees width bits block g (group width bits g block.base) ≡ true
agrees-own width bits g block = agrees-as width bits g block (group width bits g block.base) (group-below width bits g block.base) ∙ eq-eqb _ _ refl

agrees-high : (width bits g : ℕ) (block : Block) (value k : ℕ) → k ≡ free_in width bits g block
    → agrees width bits block g (group width bits g value) ≡ (value / 2 ^ (shift width bits g + k) % 2 ^ (width - k) == block.base / 2 ^ (shift width bits g + k) % 2 ^ (width - k))
agrees-high width bits g block value k e =
    let within : k ≤ width = omega arith in
    agrees-as width bits g block (group width bits g value) (group-below width bits g value)
    ∙ ap (λ f. group width bits g value / 2 ^ f == group width bits g block.base / 2 ^ f) (sym e)
    ∙ two (group-high width bits g value k within) (group-high width bits g block.base k within) where
      two : {p q r t : ℕ} → p ≡ q → r ≡ t → (p == r) ≡ (q == t)
      two x y = cc

-- ---- from the first group down

-- one more group: what was equal from bit t + j on is equal from bit t on
one-more : (value base t j n : ℕ) → (n ≡ t) ⊎ (j ≡ 0)
    → ((value / 2 ^ (t + j) == base / 2 ^ (t + j)) && (value / 2 ^ n % 2 ^ j == base / 2 ^ n % 2 ^ j)) ≡ (value / 2 ^ t == base / 2 ^ t)
one-more value base t j n (inl e) =
    ap (λ m. (value / 2 ^ (t + j) == base / 2 ^ (t + j)) && (value / 2 ^ m % 2 ^ j == base / 2 ^ m % 2 ^ j)) e
    ∙ ap (λ p. p && (value / 2 ^ t % 2 ^ j == base / 2 ^ t % 2 ^ j)) (sym (two (shr-shr value t j) (shr-shr base t j)))
    ∙ sym (split-same (value / 2 ^ t) (base / 2 ^ t) j) where
      two : {p q r t : ℕ} → p ≡ q → r ≡ t → (p == r) ≡ (q == t)
      two x y = cc
one-more value base t j n (inr e) =
    ap (λ m. (value / 2 ^ (t + m) == base / 2 ^ (t + m)) && (value / 2 ^ n % 2 ^ m == base / 2 ^ n % 2 ^ m)) e
    ∙ ap (λ p. (value / 2 ^ (t + 0) == base / 2 ^ (t + 0)) && p) (eq-eqb (value / 2 ^ n % 2 ^ 0) (base / 2 ^ n % 2 ^ 0) none)
    ∙ and-true (value / 2 ^ (t + 0) == base / 2 ^ (t + 0)) ∙ ap (λ m. value / 2 ^ m == base / 2 ^ m) same where
      none : value / 2 ^ n % 2 ^ 0 ≡ base / 2 ^ n % 2 ^ 0
      none = omega arith

      same : t + 0 ≡ t
      same = omega arith

-- The first n groups agree exactly if value and base are equal from the last bit of these groups
-- on, but for the free bits.
pub groups-so_far : (width bits : ℕ) (block : Block) (value n : ℕ) → block.free_bits ≤ bits → block.base < 2 ^ bits → value < 2 ^ bits → width * n ≤ bits
    → every (λ g. agrees width bits block g (group width bits g value)) n
    ≡ (value / 2 ^ max block.free_bits (bits - width * n) == block.base / 2 ^ max block.free_bits (bits - width * n))
groups-so_far width bits block value zero free base small within =
    let top : max block.free_bits (bits - width * 0) ≡ bits = omega arith in
    sym (ap (λ t. value / 2 ^ t == block.base / 2 ^ t) top ∙ eq-eqb (value / 2 ^ bits) (block.base / 2 ^ bits) (div-eq_of_lt small ∙ sym (div-eq_of_lt base)))
groups-so_far width bits block value (suc n) free base small within =
    let product : width * suc n ≡ width * n + width = omega arith in
    let ih = groups-so_far width bits block value n free base small (omega arith) in
    let s : ℕ = shift width bits n in
    let k : ℕ = free_in width bits n block in
    let t : ℕ = max block.free_bits (bits - width * suc n) in
    let turn : max block.free_bits (bits - width * n) ≡ t + (width - k) = omega arith in
    let here : (s + k ≡ t) ⊎ (width - k ≡ 0) = place (cases_lt (s + width) block.free_bits) in
    two (ih ∙ ap (λ m. value / 2 ^ m == block.base / 2 ^ m) turn) (agrees-high width bits n block value k refl)
    ∙ one-more value block.base t (width - k) (s + k) here where
      two : {p q r t : Bool} → p ≡ q → r ≡ t → (p && r) ≡ (q && t)
      two x y = cc

      place : (shift width bits n + width < block.free_bits) ⊎ (block.free_bits ≤ shift width bits n + width)
          → (shift width bits n + free_in width bits n block ≡ max block.free_bits (bits - width * suc n)) ⊎ (width - free_in width bits n block ≡ 0)
      place (inl h) = inr (omega arith)
      place (inr h) = inl (omega arith)

-- the groups of a field are all of its bits
pub whole-groups : (width bits : ℕ) → IsWidth width bits → width * (bits / width) ≡ bits
whole-groups width bits w = go (cases_eq width 4) where
  go : (width ≡ 4) ⊎ (width ≡ 4 → ⊥) → width * (bits / width) ≡ bits
  go (inl h) = let e = w.bytes in rw h (omega arith)
  go (inr h) = let a = w.fours in let b = w.four in let d = w.eight in let e = w.bytes in let eight : width ≡ 8 = omega arith in rw eight (omega arith)

-- group g and the bits below it are within the field
pub group-within : (width bits g : ℕ) → IsWidth width bits → g < bits / width → shift width bits g + width + width * g ≡ bits
group-within width bits g w h =
    let whole = whole-groups width bits w in
    let some : width * (g + 1) ≤ width * (bits / width) = times (g + 1) (bits / width) (omega arith) in
    let product : width * (g + 1) ≡ width * g + width = omega arith in
    omega arith where
      times : (a b : ℕ) → a ≤ b → width * a ≤ width * b
      times a b l = omega (arith, mul-le-mul_right {m = a} {n = b} width l)

pub groups-hold : HeldByGroups
groups-hold width bits block value w within small =
    let whole = whole-groups width bits w in
    let last : max block.free_bits (bits - width * (bits / width)) ≡ block.free_bits = omega arith in
    groups-so_far width bits block value (bits / width) (free-within bits block within) (base-below bits block within) small (omega arith)
    ∙ ap (λ t. value / 2 ^ t == block.base / 2 ^ t) last ∙ held-high block.base block.free_bits value within.aligned
