-- Two blocks share a value exactly if in each group some value agrees with both.
use Rattle.std.proofs.Common.{◌≡◌, refl, sym, ◌∙◌, ap, ℕ, ◌+◌, ◌-◌, ◌*◌, ◌/◌, ◌%◌, ◌^◌, ◌<◌, ◌≤◌, ◌⊎◌, max, Bool, true, false, ◌&&◌, ◌==◌, nat_le, nat_lt, arith, inl, inr}
use Rattle.std.proofs.lemmas.Bool.{cases_lt, cases_eq, cases_Bool, lt-leb, le-leb, lt-ltb, le-ltb, eq-eqb, ne_eqb, eqb-true, leb-true, ltb-true, and_parts, and_from, false_from_ne_true}
use Rattle.std.proofs.lemmas.Nat.{pow_pos, shr-shr, div-add-mod', mod-pow-add}
use Rattle.std.proofs.Math.Bool.{and-false}
use Rattle.std.proofs.Math.Nat.{mul-le-mul_right, div-eq_of_lt}
use Rattle.set_model.specs.declared.block.Block.{Block}
use Rattle.set_model.specs.Blocks.{holds_value}
use Rattle.field_groups.specs.Groups.{group, free_in, agrees, first_agreeing, agreeing_count, some_from, meets, share_value}
use Rattle.field_groups.specs.Laws.{SharedByGroups, SharedIsHeld}
use Rattle.field_groups.proofs.RangeTests.{every-same, some-false, some-true}
use Rattle.field_groups.proofs.GroupLaws.{group-below, agrees-as, agrees-own, groups-so_far, whole-groups, held-high, free-within, base-below}
use Rattle.field_groups.proofs.RunLaws.{agrees-run, run-fits}

-- what is equal from bit k on is equal further up
further : (x y k m : ℕ) → k ≤ m → x / 2 ^ k ≡ y / 2 ^ k → x / 2 ^ m ≡ y / 2 ^ m
further x y k m h e =
    let parts : m ≡ k + (m - k) = omega arith in
    ap (λ n. x / 2 ^ n) parts ∙ sym (shr-shr x k (m - k)) ∙ ap (λ q. q / 2 ^ (m - k)) e ∙ shr-shr y k (m - k) ∙ ap (λ n. y / 2 ^ n) (sym parts)

-- The block of b's base with the free bits of both. The group of a's base agrees with it exactly if
-- some value agrees with a and b.
abbrev joint : Block → Block → Block
joint a b = record { base = b.base; free_bits = max a.free_bits b.free_bits }

-- a value that agrees with both
joint-meets : (width bits g : ℕ) (a b : Block) (v : ℕ) → v < 2 ^ width → agrees width bits a g v ≡ true → agrees width bits b g v ≡ true → agrees width bits (joint a b) g (group width bits g a.base) ≡ true
joint-meets width bits g a b v h e f =
    let p : v / 2 ^ free_in width bits g a ≡ group width bits g a.base / 2 ^ free_in width bits g a = eqb-true _ _ (sym (agrees-as width bits g a v h) ∙ e) in
    let q : v / 2 ^ free_in width bits g b ≡ group width bits g b.base / 2 ^ free_in width bits g b = eqb-true _ _ (sym (agrees-as width bits g b v h) ∙ f) in
    let m : ℕ = free_in width bits g (joint a b) in
    let r : v / 2 ^ m ≡ group width bits g a.base / 2 ^ m = further v (group width bits g a.base) (free_in width bits g a) m (omega arith) p in
    let s : v / 2 ^ m ≡ group width bits g b.base / 2 ^ m = further v (group width bits g b.base) (free_in width bits g b) m (omega arith) q in
    agrees-as width bits g (joint a b) (group width bits g a.base) (group-below width bits g a.base) ∙ eq-eqb _ _ (sym r ∙ s)

-- there is such a value: the group of the base that fixes more
joint-found : (width bits g : ℕ) (a b : Block) → agrees width bits (joint a b) g (group width bits g a.base) ≡ true
    → (v : ℕ) × (v < 2 ^ width) × (agrees width bits a g v ≡ true) × (agrees width bits b g v ≡ true)
joint-found width bits g a b e =
    let p : group width bits g a.base / 2 ^ free_in width bits g (joint a b) ≡ group width bits g b.base / 2 ^ free_in width bits g (joint a b) =
    eqb-true _ _ (sym (agrees-as width bits g (joint a b) (group width bits g a.base) (group-below width bits g a.base)) ∙ e) in
    pick p (cases_lt (free_in width bits g b) (free_in width bits g a)) where
      pick : group width bits g a.base / 2 ^ free_in width bits g (joint a b) ≡ group width bits g b.base / 2 ^ free_in width bits g (joint a b)
          → (free_in width bits g b < free_in width bits g a) ⊎ (free_in width bits g a ≤ free_in width bits g b)
          → (v : ℕ) × (v < 2 ^ width) × (agrees width bits a g v ≡ true) × (agrees width bits b g v ≡ true)
      pick p (inl h) =
          let e : free_in width bits g (joint a b) ≡ free_in width bits g a = omega arith in
          let q : group width bits g b.base / 2 ^ free_in width bits g a ≡ group width bits g a.base / 2 ^ free_in width bits g a =
          ap (λ n. group width bits g b.base / 2 ^ n) (sym e) ∙ sym p ∙ ap (λ n. group width bits g a.base / 2 ^ n) e in
          (group width bits g b.base, group-below width bits g b.base, agrees-as width bits g a (group width bits g b.base) (group-below width bits g b.base) ∙ eq-eqb _ _ q, agrees-own width bits g b)
      pick p (inr h) =
          let e : free_in width bits g (joint a b) ≡ free_in width bits g b = omega arith in
          let q : group width bits g a.base / 2 ^ free_in width bits g b ≡ group width bits g b.base / 2 ^ free_in width bits g b =
          ap (λ n. group width bits g a.base / 2 ^ n) (sym e) ∙ p ∙ ap (λ n. group width bits g b.base / 2 ^ n) e in
          (group width bits g a.base, group-below width bits g a.base, agrees-own width bits g a, agrees-as width bits g b (group width bits g a.base) (group-below width bits g a.base) ∙ eq-eqb _ _ q)

-- ---- one group, three times the same

meets-joint : (width bits g : ℕ) (a b : Block) → meets width bits a b g ≡ agrees width bits (joint a b) g (group width bits g a.base)
meets-joint width bits g a b = go (cases_Bool (agrees width bits (joint a b) g (group width bits g a.base))) where
  go : (agrees width bits (joint a b) g (group width bits g a.base) ≡ true) ⊎ (agrees width bits (joint a b) g (group width bits g a.base) ≡ false)
      → meets width bits a b g ≡ agrees width bits (joint a b) g (group width bits g a.base)
  go (inl e) =
      let found = joint-found width bits g a b e in
      some-true (λ v. agrees width bits a g v && agrees width bits b g v) 0 (2 ^ width) found.0 found.1
      (ap (λ v. agrees width bits a g v && agrees width bits b g v) (let z : 0 + found.0 ≡ found.0 = omega arith in z) ∙ and_from _ _ found.2 found.3) ∙ sym e
  go (inr e) =
      some-false (λ v. agrees width bits a g v && agrees width bits b g v) 0 (2 ^ width)
      (λ k h. let within : 0 + k < 2 ^ width = omega arith in
      false_from_ne_true (agrees width bits a g (0 + k) && agrees width bits b g (0 + k))
      (λ t. let parts = and_parts (agrees width bits a g (0 + k)) (agrees width bits b g (0 + k)) t in
      let m : agrees width bits (joint a b) g (group width bits g a.base) ≡ true = joint-meets width bits g a b (0 + k) within parts.0 parts.1 in absurd (cc)))
      ∙ sym e

-- Some value of the run of b agrees with a: the run is what the code ORs.
run-joint : (width bits g : ℕ) (a b : Block)
    → some_from (λ v. agrees width bits a g v) (first_agreeing width bits g b) (agreeing_count width bits g b) ≡ agrees width bits (joint a b) g (group width bits g a.base)
run-joint width bits g a b = go (cases_Bool (agrees width bits (joint a b) g (group width bits g a.base))) where
  in_run : (i : ℕ) → i < agreeing_count width bits g b → agrees width bits b g (first_agreeing width bits g b + i) ≡ true
  in_run i h =
      let within : first_agreeing width bits g b + i < 2 ^ width = omega (arith, run-fits width bits g b) in
      agrees-run width bits g b (first_agreeing width bits g b + i) within
      ∙ and_from _ _ (le-leb (first_agreeing width bits g b) (first_agreeing width bits g b + i) (omega arith)) (lt-ltb (first_agreeing width bits g b + i) (first_agreeing width bits g b + agreeing_count width bits g b) (omega arith))

  place : (v : ℕ) → v < 2 ^ width → agrees width bits b g v ≡ true → (i : ℕ) × (i < agreeing_count width bits g b) × (first_agreeing width bits g b + i ≡ v)
  place v h e =
      let tests = and_parts (nat_le (first_agreeing width bits g b) v) (nat_lt v (first_agreeing width bits g b + agreeing_count width bits g b)) (sym (agrees-run width bits g b v h) ∙ e) in
      let low : first_agreeing width bits g b ≤ v = leb-true (first_agreeing width bits g b) v tests.0 in
      let high : v < first_agreeing width bits g b + agreeing_count width bits g b = ltb-true v (first_agreeing width bits g b + agreeing_count width bits g b) tests.1 in
      (v - first_agreeing width bits g b, omega arith, omega arith)

  go : (agrees width bits (joint a b) g (group width bits g a.base) ≡ true) ⊎ (agrees width bits (joint a b) g (group width bits g a.base) ≡ false)
      → some_from (λ v. agrees width bits a g v) (first_agreeing width bits g b) (agreeing_count width bits g b) ≡ agrees width bits (joint a b) g (group width bits g a.base)
  go (inl e) =
      let found = joint-found width bits g a b e in
      let i = place found.0 found.1 found.3 in
      some-true (λ v. agrees width bits a g v) (first_agreeing width bits g b) (agreeing_count width bits g b) i.0 i.1 (ap (λ n. agrees width bits a g n) i.2 ∙ found.2) ∙ sym e
  go (inr e) =
      some-false (λ v. agrees width bits a g v) (first_agreeing width bits g b) (agreeing_count width bits g b)
      (λ i h. let within : first_agreeing width bits g b + i < 2 ^ width = omega (arith, run-fits width bits g b) in
      false_from_ne_true (agrees width bits a g (first_agreeing width bits g b + i))
      (λ f. let m : agrees width bits (joint a b) g (group width bits g a.base) ≡ true = joint-meets width bits g a b (first_agreeing width bits g b + i) within f (in_run i h) in absurd (cc)))
      ∙ sym e

pub run-meets : (width bits g : ℕ) (a b : Block) → some_from (λ v. agrees width bits a g v) (first_agreeing width bits g b) (agreeing_count width bits g b) ≡ meets width bits a b g
run-meets width bits g a b = run-joint width bits g a b ∙ sym (meets-joint width bits g a b)

-- if b leaves the whole group free, it meets each block
pub meets-free : (width bits g : ℕ) (a b : Block) → free_in width bits g b ≡ width → meets width bits a b g ≡ true
meets-free width bits g a b all =
    let top : free_in width bits g (joint a b) ≡ width = omega arith in
    meets-joint width bits g a b ∙ agrees-as width bits g (joint a b) (group width bits g a.base) (group-below width bits g a.base)
    ∙ ap (λ n. group width bits g a.base / 2 ^ n == group width bits g b.base / 2 ^ n) top
    ∙ eq-eqb _ _ (div-eq_of_lt (group-below width bits g a.base) ∙ sym (div-eq_of_lt (group-below width bits g b.base)))

-- ---- all groups

-- a multiple of a power of two is one of each smaller power
aligned-less : (n k m : ℕ) → k ≤ m → n % 2 ^ m ≡ 0 → n % 2 ^ k ≡ 0
aligned-less n k m h e =
    let parts : m ≡ (m - k) + k = omega arith in
    let split : n % 2 ^ ((m - k) + k) ≡ n / 2 ^ k % 2 ^ (m - k) * 2 ^ k + n % 2 ^ k = mod-pow-add n (m - k) k in
    let whole : n % 2 ^ ((m - k) + k) ≡ 0 = ap (λ j. n % 2 ^ j) (sym parts) ∙ e in
    omega arith

-- Of two multiples of a power, take one that is below the end of the other's block. It is not above
-- that block's start.
start-below : (x y k : ℕ) → x % 2 ^ k ≡ 0 → y % 2 ^ k ≡ 0 → x < y + 2 ^ k → x ≤ y
start-below x y k a b h =
    let p : x / 2 ^ k * 2 ^ k + x % 2 ^ k ≡ x = div-add-mod' x (2 ^ k) in
    let q : y / 2 ^ k * 2 ^ k + y % 2 ^ k ≡ y = div-add-mod' y (2 ^ k) in
    let m = multiple (x / 2 ^ k) (y / 2 ^ k) (2 ^ k) (omega arith) in
    omega arith where
      multiple : (p q size : ℕ) → p * size < q * size + size → p * size ≤ q * size
      multiple p q size h = elim (cases_lt q p) [
        | inl l ↦ absurd (omega (arith, mul-le-mul_right {m = q + 1} {n = p} size (omega arith)))
        | inr l ↦ mul-le-mul_right size l
      ]

-- the larger block holds the smaller one's base exactly if they share a value
share-larger : (x k y m : ℕ) → k ≤ m → x % 2 ^ k ≡ 0 → y % 2 ^ m ≡ 0 → (nat_le y x && nat_lt x (y + 2 ^ m)) ≡ (nat_lt x (y + 2 ^ m) && nat_lt y (x + 2 ^ k))
share-larger x k y m h a b = go (cases_lt x (y + 2 ^ m)) (cases_lt y (x + 2 ^ k)) where
  go : (x < y + 2 ^ m) ⊎ (y + 2 ^ m ≤ x) → (y < x + 2 ^ k) ⊎ (x + 2 ^ k ≤ y) → (nat_le y x && nat_lt x (y + 2 ^ m)) ≡ (nat_lt x (y + 2 ^ m) && nat_lt y (x + 2 ^ k))
  go (inr l) d =
      ap (λ t. nat_le y x && t) (le-ltb x (y + 2 ^ m) l) ∙ and-false (nat_le y x) ∙ sym (ap (λ t. t && nat_lt y (x + 2 ^ k)) (le-ltb x (y + 2 ^ m) l))
  go (inl l) (inl d) =
      let le : y ≤ x = start-below y x k (aligned-less y k m h b) a d in
      and_from _ _ (le-leb y x le) (lt-ltb x (y + 2 ^ m) l) ∙ sym (and_from _ _ (lt-ltb x (y + 2 ^ m) l) (lt-ltb y (x + 2 ^ k) d))
  go (inl l) (inr d) =
      let p : 0 < 2 ^ k = pow_pos k in
      ap (λ t. t && nat_lt x (y + 2 ^ m)) (lt-leb y x (omega arith)) ∙ sym (ap (λ t. nat_lt x (y + 2 ^ m) && t) (le-ltb y (x + 2 ^ k) d) ∙ and-false (nat_lt x (y + 2 ^ m)))

pub groups-share : SharedByGroups
groups-share width bits a b w aw bw =
    let whole = whole-groups width bits w in
    let x = free-within bits a aw in
    let y = free-within bits b bw in
    let last : max (max a.free_bits b.free_bits) (bits - width * (bits / width)) ≡ max a.free_bits b.free_bits = omega arith in
    every-same (meets width bits a b) (λ g. agrees width bits (joint a b) g (group width bits g a.base)) (bits / width) (λ g l. meets-joint width bits g a b)
    ∙ groups-so_far width bits (joint a b) a.base (bits / width) (omega arith) (base-below bits b bw) (base-below bits a aw) (omega arith)
    ∙ ap (λ t. a.base / 2 ^ t == b.base / 2 ^ t) last ∙ go (cases_lt b.free_bits a.free_bits) where
      turned : (u v : ℕ) → (u == v) ≡ (v == u)
      turned u v = elim (cases_eq u v) [ inl h ↦ eq-eqb u v h ∙ sym (eq-eqb v u (sym h)) | inr h ↦ ne_eqb u v h ∙ sym (ne_eqb v u (λ k. h (sym k))) ]

      swapped : (u v : Bool) → (u && v) ≡ (v && u)
      swapped true true = refl
      swapped true false = refl
      swapped false true = refl
      swapped false false = refl

      go : (b.free_bits < a.free_bits) ⊎ (a.free_bits ≤ b.free_bits) → (a.base / 2 ^ max a.free_bits b.free_bits == b.base / 2 ^ max a.free_bits b.free_bits) ≡ share_value a b
      go (inl h) =
          let top : max a.free_bits b.free_bits ≡ a.free_bits = omega arith in
          ap (λ t. a.base / 2 ^ t == b.base / 2 ^ t) top ∙ turned (a.base / 2 ^ a.free_bits) (b.base / 2 ^ a.free_bits) ∙ held-high a.base a.free_bits b.base aw.aligned
          ∙ share-larger b.base b.free_bits a.base a.free_bits (omega arith) bw.aligned aw.aligned
          ∙ swapped (nat_lt b.base (a.base + 2 ^ a.free_bits)) (nat_lt a.base (b.base + 2 ^ b.free_bits))
      go (inr h) =
          let top : max a.free_bits b.free_bits ≡ b.free_bits = omega arith in
          ap (λ t. a.base / 2 ^ t == b.base / 2 ^ t) top ∙ held-high b.base b.free_bits a.base bw.aligned
          ∙ share-larger a.base a.free_bits b.base b.free_bits h aw.aligned bw.aligned

-- If two blocks share a value, both hold the larger of their bases.
pub share-held : SharedIsHeld
share-held a b = (found, shared) where
  held : (block : Block) (v : ℕ) → block.base ≤ v → v < block.base + 2 ^ block.free_bits → holds_value block v ≡ true
  held block v low high = and_from _ _ (le-leb block.base v low) (lt-ltb v (block.base + 2 ^ block.free_bits) high)

  found : share_value a b ≡ true → (value : ℕ) × (holds_value a value ≡ true) × (holds_value b value ≡ true)
  found e =
      let tests = and_parts (nat_lt a.base (b.base + 2 ^ b.free_bits)) (nat_lt b.base (a.base + 2 ^ a.free_bits)) e in
      let first : a.base < b.base + 2 ^ b.free_bits = ltb-true a.base (b.base + 2 ^ b.free_bits) tests.0 in
      let second : b.base < a.base + 2 ^ a.free_bits = ltb-true b.base (a.base + 2 ^ a.free_bits) tests.1 in
      let p : 0 < 2 ^ a.free_bits = pow_pos a.free_bits in
      let q : 0 < 2 ^ b.free_bits = pow_pos b.free_bits in
      (max a.base b.base, held a (max a.base b.base) (omega arith) (omega arith), held b (max a.base b.base) (omega arith) (omega arith))

  shared : (value : ℕ) × (holds_value a value ≡ true) × (holds_value b value ≡ true) → share_value a b ≡ true
  shared (value, in_a, in_b) =
      let one = and_parts (nat_le a.base value) (nat_lt value (a.base + 2 ^ a.free_bits)) in_a in
      let two = and_parts (nat_le b.base value) (nat_lt value (b.base + 2 ^ b.free_bits)) in_b in
      let a_low : a.base ≤ value = leb-true a.base value one.0 in
      let a_high : value < a.base + 2 ^ a.free_bits = ltb-true value (a.base + 2 ^ a.free_bits) one.1 in
      let b_low : b.base ≤ value = leb-true b.base value two.0 in
      let b_high : value < b.base + 2 ^ b.free_bits = ltb-true value (b.base + 2 ^ b.free_bits) two.1 in
      and_from _ _ (lt-ltb a.base (b.base + 2 ^ b.free_bits) (omega arith)) (lt-ltb b.base (a.base + 2 ^ a.free_bits) (omega arith))
