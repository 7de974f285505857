-- The values of a group that agree with a block are a run. The mask of a group.
use Rattle.std.proofs.Common.{◌≡◌, sym, ◌∙◌, ap, ℕ, ◌+◌, ◌-◌, ◌*◌, ◌/◌, ◌%◌, ◌^◌, ◌<◌, ◌≤◌, ◌⊎◌, min, ◌&&◌, ◌==◌, nat_le, nat_lt, bit_and, arith, inl, inr}
use Rattle.std.proofs.lemmas.Bool.{cases_lt}
use Rattle.std.proofs.lemmas.Nat.{pow_pos, pow-add, shl-shr, shr_below, div-mul-add, mod-mul-add}
use Rattle.std.proofs.lemmas.Nat.Bits.{and_high_mask}
use Rattle.std.proofs.Math.Nat.{mul-le-mul_right, mul-mod_left, mul-sub}
use Rattle.std.proofs.Math.Pow.{pow_mono}
use Rattle.set_model.specs.declared.block.Block.{Block}
use Rattle.field_groups.specs.Groups.{shift, group, free_in, agrees, first_agreeing, agreeing_count}
use Rattle.field_groups.specs.Laws.{AgreeingRun, FixedByMask}
use Rattle.field_groups.proofs.GroupLaws.{same-high, held-high, group-below, group-within, free-within}

size-is : (w k : ℕ) → k ≤ w → 2 ^ w - (2 ^ w - 2 ^ k) ≡ 2 ^ k
size-is w k h = omega (arith, pow_mono {i = k} {j = w} h)

pub count-is : (width bits g : ℕ) (block : Block) → agreeing_count width bits g block ≡ 2 ^ free_in width bits g block
count-is width bits g block = size-is width (free_in width bits g block) (omega arith)

run-end : (w k x : ℕ) → k ≤ w → x < 2 ^ w → x / 2 ^ k * 2 ^ k + 2 ^ k ≤ 2 ^ w
run-end w k x h a =
    let e : w ≡ w - k + k = omega arith in
    let whole : 2 ^ w ≡ 2 ^ (w - k) * 2 ^ k = ap (λ n. 2 ^ n) e ∙ pow-add 2 (w - k) k in
    let q : x / 2 ^ k < 2 ^ (w - k) = shr_below x (w - k) k (below x (2 ^ w) (2 ^ (w - k + k)) (ap (λ n. 2 ^ n) e) a) in
    omega (arith, mul-le-mul_right {m = x / 2 ^ k + 1} {n = 2 ^ (w - k)} (2 ^ k) (omega arith)) where
      below : (p q r : ℕ) → q ≡ r → p < q → p < r
      below p q r f l = omega arith

-- the run is within the group's values
pub run-fits : (width bits g : ℕ) (block : Block) → first_agreeing width bits g block + agreeing_count width bits g block ≤ 2 ^ width
run-fits width bits g block =
    let k : ℕ = free_in width bits g block in
    let within : k ≤ width = omega arith in
    rw (and_high_mask width k within (group width bits g block.base) (group-below width bits g block.base), size-is width k within)
    (run-end width k (group width bits g block.base) within (group-below width bits g block.base))

pub run-some : (width bits g : ℕ) (block : Block) → 1 ≤ agreeing_count width bits g block
run-some width bits g block = let p : 0 < 2 ^ free_in width bits g block = pow_pos (free_in width bits g block) in omega (arith, count-is width bits g block)

pub agrees-run : AgreeingRun
unfolding agrees
agrees-run width bits g block v h =
    let k : ℕ = free_in width bits g block in
    let b : ℕ = group width bits g block.base in
    let within : k ≤ width = omega arith in
    let aligned : b / 2 ^ k * 2 ^ k % 2 ^ k ≡ 0 = mul-mod_left (b / 2 ^ k) (2 ^ k) in
    same-high width k v b within h (group-below width bits g block.base)
    ∙ ap (λ q. v / 2 ^ k == q) (sym (shl-shr (b / 2 ^ k) k)) ∙ held-high (b / 2 ^ k * 2 ^ k) k v aligned
    ∙ two (sym (and_high_mask width k within b (group-below width bits g block.base))) (sym (size-is width k within)) where
      two : {p q r t : ℕ} → p ≡ q → r ≡ t → (nat_le p v && nat_lt v (p + r)) ≡ (nat_le q v && nat_lt v (q + t))
      two x y = cc

-- if the block fixes the whole group, the run is the base's group alone
pub first-fixed : (width bits g : ℕ) (block : Block) → free_in width bits g block ≡ 0 → first_agreeing width bits g block ≡ group width bits g block.base
first-fixed width bits g block none =
    let b : ℕ = group width bits g block.base in
    let one : b / 2 ^ 0 * 2 ^ 0 ≡ b = omega arith in
    ap (λ k. bit_and b (2 ^ width - 2 ^ k)) none ∙ and_high_mask width 0 (omega arith) b (group-below width bits g block.base) ∙ one

-- ---- the group of the network mask

sub-mul : (x y z : ℕ) → (x - y) * z ≡ x * z - y * z
sub-mul x y z = omega (arith, mul-sub z x y)

-- what is above bit s of a mask
mask-high : (n f s : ℕ) → f ≤ n → s ≤ n → (2 ^ n - 2 ^ f) / 2 ^ s ≡ 2 ^ (n - s) - 2 ^ (f - s)
mask-high n f s a b = go (cases_lt s f) where
  p : 0 < 2 ^ s
  p = pow_pos s

  whole : 2 ^ n ≡ 2 ^ (n - s) * 2 ^ s
  whole = ap (λ m. 2 ^ m) (let e : n ≡ n - s + s = omega arith in e) ∙ pow-add 2 (n - s) s

  go : (s < f) ⊎ (f ≤ s) → (2 ^ n - 2 ^ f) / 2 ^ s ≡ 2 ^ (n - s) - 2 ^ (f - s)
  go (inl h) =
      let part : 2 ^ f ≡ 2 ^ (f - s) * 2 ^ s = ap (λ m. 2 ^ m) (let e : f ≡ f - s + s = omega arith in e) ∙ pow-add 2 (f - s) s in
      let le : 2 ^ (f - s) ≤ 2 ^ (n - s) = pow_mono {i = f - s} {j = n - s} (omega arith) in
      let e : 2 ^ n - 2 ^ f ≡ (2 ^ (n - s) - 2 ^ (f - s)) * 2 ^ s + 0 = rw (whole, part) (times (2 ^ (n - s)) (2 ^ (f - s)) (2 ^ s) le) in
      ap (λ m. m / 2 ^ s) e ∙ div-mul-add (2 ^ (n - s) - 2 ^ (f - s)) (2 ^ s) 0 p where
        times : (x y z : ℕ) → y ≤ x → x * z - y * z ≡ (x - y) * z + 0
        times x y z l = omega (arith, sub-mul x y z)
  go (inr h) =
      let one : 2 ^ (f - s) ≡ 1 = ap (λ m. 2 ^ m) (let e : f - s ≡ 0 = omega arith in e) in
      let le : 2 ^ f ≤ 2 ^ s = pow_mono {i = f} {j = s} h in
      let q : 0 < 2 ^ f = pow_pos f in
      let r : 0 < 2 ^ (n - s) = pow_pos (n - s) in
      let e : 2 ^ n - 2 ^ f ≡ (2 ^ (n - s) - 1) * 2 ^ s + (2 ^ s - 2 ^ f) = ap (λ m. m - 2 ^ f) whole ∙ times (2 ^ (n - s)) (2 ^ s) (2 ^ f) r le in
      ap (λ m. m / 2 ^ s) e ∙ div-mul-add (2 ^ (n - s) - 1) (2 ^ s) (2 ^ s - 2 ^ f) (omega arith) ∙ ap (λ m. 2 ^ (n - s) - m) (sym one) where
        times : (x z y : ℕ) → 0 < x → y ≤ z → x * z - y ≡ (x - 1) * z + (z - y)
        times x z y l k = let m : z ≤ x * z = omega (arith, mul-le-mul_right {m = 1} {n = x} z l) in omega (arith, sub-mul x 1 z)

-- the w lowest bits of a mask
mask-low : (m j w : ℕ) → j ≤ m → w ≤ m → (2 ^ m - 2 ^ j) % 2 ^ w ≡ 2 ^ w - 2 ^ min w j
mask-low m j w a b = go (cases_lt w j) where
  whole : 2 ^ m ≡ 2 ^ (m - w) * 2 ^ w
  whole = ap (λ k. 2 ^ k) (let e : m ≡ m - w + w = omega arith in e) ∙ pow-add 2 (m - w) w

  go : (w < j) ⊎ (j ≤ w) → (2 ^ m - 2 ^ j) % 2 ^ w ≡ 2 ^ w - 2 ^ min w j
  go (inl h) =
      let part : 2 ^ j ≡ 2 ^ (j - w) * 2 ^ w = ap (λ k. 2 ^ k) (let e : j ≡ j - w + w = omega arith in e) ∙ pow-add 2 (j - w) w in
      let least : 2 ^ min w j ≡ 2 ^ w = ap (λ k. 2 ^ k) (let e : min w j ≡ w = omega arith in e) in
      let e : 2 ^ m - 2 ^ j ≡ (2 ^ (m - w) - 2 ^ (j - w)) * 2 ^ w = rw (whole, part) (sym (sub-mul (2 ^ (m - w)) (2 ^ (j - w)) (2 ^ w))) in
      ap (λ k. k % 2 ^ w) e ∙ mul-mod_left (2 ^ (m - w) - 2 ^ (j - w)) (2 ^ w) ∙ omega arith
  go (inr h) =
      let least : 2 ^ min w j ≡ 2 ^ j = ap (λ k. 2 ^ k) (let e : min w j ≡ j = omega arith in e) in
      let le : 2 ^ j ≤ 2 ^ w = pow_mono {i = j} {j = w} h in
      let q : 0 < 2 ^ j = pow_pos j in
      let e : 2 ^ m - 2 ^ j ≡ (2 ^ (m - w) - 1) * 2 ^ w + (2 ^ w - 2 ^ j) = ap (λ k. k - 2 ^ j) whole ∙ times (2 ^ (m - w)) (2 ^ w) (2 ^ j) (pow_pos (m - w)) le in
      ap (λ k. k % 2 ^ w) e ∙ mod-mul-add (2 ^ (m - w) - 1) (2 ^ w) (2 ^ w - 2 ^ j) (omega arith) ∙ ap (λ k. 2 ^ w - k) (sym least) where
        times : (x z y : ℕ) → 0 < x → y ≤ z → x * z - y ≡ (x - 1) * z + (z - y)
        times x z y l k = let m : z ≤ x * z = omega (arith, mul-le-mul_right {m = 1} {n = x} z l) in omega (arith, sub-mul x 1 z)

mask-group : (n f s w : ℕ) → f ≤ n → s + w ≤ n → (2 ^ n - 2 ^ f) / 2 ^ s % 2 ^ w ≡ 2 ^ w - 2 ^ min w (f - s)
mask-group n f s w a b = ap (λ x. x % 2 ^ w) (mask-high n f s a (omega arith)) ∙ mask-low (n - s) (f - s) w (omega arith) (omega arith)

pub fixed-mask : FixedByMask
fixed-mask width bits g block w h within =
    sym (mask-group bits block.free_bits (shift width bits g) width (free-within bits block within) (omega (arith, group-within width bits g w h)))
