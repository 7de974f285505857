-- A table in groups of four bits, from one in groups of eight.
use Rattle.std.proofs.Common.{◌≡◌, refl, sym, ◌∙◌, ap, ℕ, ◌+◌, ◌*◌, ◌/◌, ◌%◌, ◌^◌, ◌<◌, ◌≤◌, ◌⊎◌, true, false, cond, ◌==◌, ◌&&◌, List, length, arith, inl, inr}
use Rattle.std.proofs.lemmas.Bool.{cases_eq, cases_Bool, eq-eqb, ne_eqb, and_from}
use Rattle.std.proofs.Math.Bool.{and-false}
use Rattle.set_model.specs.declared.block.Block.{Block}
use Rattle.bit_rows.specs.Row.{Row, at}
use Rattle.field_groups.specs.Groups.{IsWidth, group, agrees, some_from}
use Rattle.field_groups.proofs.RangeTests.{some-false, some-true, some-same}
use Rattle.field_groups.proofs.GroupLaws.{group-below, agrees-own}
use Rattle.field_groups.proofs.HalfLaws.{agrees-halves}
use Rattle.lookup_table.specs.Table.{bucket_place, cell, IsShaped, block_at, StandsFor}
use Rattle.lookup_table.specs.Rows.{IsJoined, halves_start, halves_step}
use Rattle.lookup_table.proofs.RowsLaws.{cell-is}
use Rattle.lookup_table.proofs.WideLaws.{Made, made-shape}

-- the OR of the sixteen buckets for bucket j
abbrev pub IsNarrow : List Row → ℕ → ℕ → Row → Type 0
IsNarrow old rules j row = IsJoined old (halves_start j) (halves_step j) 16 rules row

pub narrow-groups : (bits : ℕ) → IsWidth 8 bits → IsWidth 4 bits
narrow-groups bits w = record { fours = refl; four = omega arith; eight = omega arith; bytes = w.bytes; some = w.some; most = w.most }

pub narrow-same : (old : List Row) (rules j : ℕ) (a b : Row) → b.bits ≡ a.bits → IsNarrow old rules j a → IsNarrow old rules j b
narrow-same old rules j a b e narrow = record { long = ap length e ∙ narrow.long; at = λ r h. ap (λ xs. at xs r) e ∙ narrow.at r h }

pub narrow-shape : (bits rules n : ℕ) (old rows : List Row) → IsShaped 8 bits rules old → Made (IsNarrow old rules) (bits / 4 * 16) rules n rows → IsShaped 4 bits rules rows
narrow-shape bits rules n old rows shape done = made-shape (IsNarrow old rules) 4 bits rules (bits / 4 * 16) n rows (narrow-groups bits shape.groups) refl done

-- ---- sixteen values of a group of eight bits that have one half

-- the values of which v is the upper half
upper-half : (bits g : ℕ) (block : Block) (v : ℕ) → 8 * (g + 1) ≤ bits → v < 16 → some_from (λ l. agrees 8 bits block g (v * 16 + l)) 0 16 ≡ agrees 4 bits block (2 * g) v
upper-half bits g block v h small = go (cases_Bool (agrees 4 bits block (2 * g) v)) where
  halves : (l : ℕ) → l < 16 → agrees 8 bits block g (v * 16 + l) ≡ (agrees 4 bits block (2 * g) v && agrees 4 bits block (2 * g + 1) l)
  halves l k =
      let a : (v * 16 + l) / 2 ^ 4 ≡ v = omega arith in
      let b : (v * 16 + l) % 2 ^ 4 ≡ l = omega arith in
      agrees-halves bits g block (v * 16 + l) h (omega arith) ∙ ap (λ x. agrees 4 bits block (2 * g) x && agrees 4 bits block (2 * g + 1) ((v * 16 + l) % 2 ^ 4)) a
      ∙ ap (λ x. agrees 4 bits block (2 * g) v && agrees 4 bits block (2 * g + 1) x) b

  go : (agrees 4 bits block (2 * g) v ≡ true) ⊎ (agrees 4 bits block (2 * g) v ≡ false) → some_from (λ l. agrees 8 bits block g (v * 16 + l)) 0 16 ≡ agrees 4 bits block (2 * g) v
  go (inl e) =
      let below : group 4 bits (2 * g + 1) block.base < 2 ^ 4 = group-below 4 bits (2 * g + 1) block.base in
      let first : 0 + group 4 bits (2 * g + 1) block.base ≡ group 4 bits (2 * g + 1) block.base = omega arith in
      some-true (λ l. agrees 8 bits block g (v * 16 + l)) 0 16 (group 4 bits (2 * g + 1) block.base) (omega arith)
      (ap (λ x. agrees 8 bits block g (v * 16 + x)) first ∙ halves (group 4 bits (2 * g + 1) block.base) (omega arith) ∙ and_from _ _ e (agrees-own 4 bits (2 * g + 1) block)) ∙ sym e
  go (inr e) =
      some-false (λ l. agrees 8 bits block g (v * 16 + l)) 0 16
      (λ k l. let first : 0 + k ≡ k = omega arith in ap (λ x. agrees 8 bits block g (v * 16 + x)) first ∙ halves k l ∙ ap (λ t. t && agrees 4 bits block (2 * g + 1) k) e) ∙ sym e

-- the values of which v is the lower half
lower-half : (bits g : ℕ) (block : Block) (v : ℕ) → 8 * (g + 1) ≤ bits → v < 16 → some_from (λ l. agrees 8 bits block g (v + l * 16)) 0 16 ≡ agrees 4 bits block (2 * g + 1) v
lower-half bits g block v h small = go (cases_Bool (agrees 4 bits block (2 * g + 1) v)) where
  halves : (l : ℕ) → l < 16 → agrees 8 bits block g (v + l * 16) ≡ (agrees 4 bits block (2 * g) l && agrees 4 bits block (2 * g + 1) v)
  halves l k =
      let a : (v + l * 16) / 2 ^ 4 ≡ l = omega arith in
      let b : (v + l * 16) % 2 ^ 4 ≡ v = omega arith in
      agrees-halves bits g block (v + l * 16) h (omega arith) ∙ ap (λ x. agrees 4 bits block (2 * g) x && agrees 4 bits block (2 * g + 1) ((v + l * 16) % 2 ^ 4)) a
      ∙ ap (λ x. agrees 4 bits block (2 * g) l && agrees 4 bits block (2 * g + 1) x) b

  go : (agrees 4 bits block (2 * g + 1) v ≡ true) ⊎ (agrees 4 bits block (2 * g + 1) v ≡ false) → some_from (λ l. agrees 8 bits block g (v + l * 16)) 0 16 ≡ agrees 4 bits block (2 * g + 1) v
  go (inl e) =
      let below : group 4 bits (2 * g) block.base < 2 ^ 4 = group-below 4 bits (2 * g) block.base in
      let first : 0 + group 4 bits (2 * g) block.base ≡ group 4 bits (2 * g) block.base = omega arith in
      some-true (λ l. agrees 8 bits block g (v + l * 16)) 0 16 (group 4 bits (2 * g) block.base) (omega arith)
      (ap (λ x. agrees 8 bits block g (v + x * 16)) first ∙ halves (group 4 bits (2 * g) block.base) (omega arith) ∙ and_from _ _ (agrees-own 4 bits (2 * g) block) e) ∙ sym e
  go (inr e) =
      some-false (λ l. agrees 8 bits block g (v + l * 16)) 0 16
      (λ k l. let first : 0 + k ≡ k = omega arith in ap (λ x. agrees 8 bits block g (v + x * 16)) first ∙ halves k l ∙ ap (λ t. agrees 4 bits block (2 * g) k && t) e ∙ and-false (agrees 4 bits block (2 * g) k)) ∙ sym e

-- ---- all buckets

pub narrow-stands : (bits rules : ℕ) (old rows : List Row) (blocks : List Block) → IsWidth 8 bits → Made (IsNarrow old rules) (bits / 4 * 16) rules (bits / 4 * 16) rows → StandsFor 8 bits rules old blocks → StandsFor 4 bits rules rows blocks
narrow-stands bits rules old rows blocks w done stands = record { one_each = stands.one_each; within = stands.within; bucket = λ g v r h k l. bucket g v r h k l (cases_eq (g % 2) 0) } where
  -- the sixteen buckets by their values
  sixteen : (g v r start step : ℕ) (value : ℕ → ℕ) → g < bits / 4 → v < 2 ^ 4 → r < rules → halves_start (bucket_place 4 g v) ≡ start → halves_step (bucket_place 4 g v) ≡ step
      → ((l : ℕ) → l < 16 → start + l * step ≡ g / 2 * 2 ^ 8 + value l) → ((l : ℕ) → l < 16 → value l < 2 ^ 8)
      → cell rows (bucket_place 4 g v) r ≡ some_from (λ l. agrees 8 bits (block_at blocks r) (g / 2) (value l)) 0 16
  sixteen g v r start step value h k l e f place below =
      cell-is rows (bucket_place 4 g v) r ∙ (done.at (bucket_place 4 g v) (omega arith)).at r l
      ∙ some-same (λ x. cell old (halves_start (bucket_place 4 g v) + x * halves_step (bucket_place 4 g v)) r) (λ x. agrees 8 bits (block_at blocks r) (g / 2) (value x)) 0 16
      (λ x m. let first : 0 + x ≡ x = omega arith in
      ap (λ y. cell old (halves_start (bucket_place 4 g v) + y * halves_step (bucket_place 4 g v)) r) first
      ∙ ap (λ s. cell old (s + x * halves_step (bucket_place 4 g v)) r) e ∙ ap (λ s. cell old (start + x * s) r) f ∙ ap (λ j. cell old j r) (place x m)
      ∙ stands.bucket (g / 2) (value x) r (omega (arith, w.bytes)) (below x m) l ∙ ap (λ y. agrees 8 bits (block_at blocks r) (g / 2) (value y)) (sym first))

  bucket : (g v r : ℕ) → g < bits / 4 → v < 2 ^ 4 → r < rules → (g % 2 ≡ 0) ⊎ (g % 2 ≡ 0 → ⊥) → cell rows (bucket_place 4 g v) r ≡ agrees 4 bits (block_at blocks r) g v
  bucket g v r h k l (inl even) =
      let e : (g * 2 ^ 4 + v) / 16 ≡ g = omega arith in
      let f : (g * 2 ^ 4 + v) % 16 ≡ v = omega arith in
      let test : ((g * 2 ^ 4 + v) / 16 % 2 == 0) ≡ true = eq-eqb _ 0 (ap (λ x. x % 2) e ∙ even) in
      let start : halves_start (g * 2 ^ 4 + v) ≡ g / 2 * 256 + v * 16 =
      ap (λ t. cond t ((g * 2 ^ 4 + v) / 16 / 2 * 256 + (g * 2 ^ 4 + v) % 16 * 16) ((g * 2 ^ 4 + v) / 16 / 2 * 256 + (g * 2 ^ 4 + v) % 16)) test ∙ omega arith in
      let step : halves_step (g * 2 ^ 4 + v) ≡ 1 = ap (λ t. cond t 1 16) test in
      let half : 2 * (g / 2) ≡ g = omega arith in
      sixteen g v r (g / 2 * 256 + v * 16) 1 (λ x. v * 16 + x) h k l start step (λ x m. omega arith) (λ x m. omega arith)
      ∙ upper-half bits (g / 2) (block_at blocks r) v (omega (arith, w.bytes)) k ∙ ap (λ x. agrees 4 bits (block_at blocks r) x v) half
  bucket g v r h k l (inr odd) =
      let e : (g * 2 ^ 4 + v) / 16 ≡ g = omega arith in
      let f : (g * 2 ^ 4 + v) % 16 ≡ v = omega arith in
      let test : ((g * 2 ^ 4 + v) / 16 % 2 == 0) ≡ false = ne_eqb _ 0 (λ z. odd (ap (λ x. x % 2) (sym e) ∙ z)) in
      let start : halves_start (g * 2 ^ 4 + v) ≡ g / 2 * 256 + v =
      ap (λ t. cond t ((g * 2 ^ 4 + v) / 16 / 2 * 256 + (g * 2 ^ 4 + v) % 16 * 16) ((g * 2 ^ 4 + v) / 16 / 2 * 256 + (g * 2 ^ 4 + v) % 16)) test ∙ omega arith in
      let step : halves_step (g * 2 ^ 4 + v) ≡ 16 = ap (λ t. cond t 1 16) test in
      let half : 2 * (g / 2) + 1 ≡ g = rest odd in
      sixteen g v r (g / 2 * 256 + v) 16 (λ x. v + x * 16) h k l start step (λ x m. omega arith) (λ x m. omega arith)
      ∙ lower-half bits (g / 2) (block_at blocks r) v (omega (arith, w.bytes)) k ∙ ap (λ x. agrees 4 bits (block_at blocks r) x v) half where
        rest : (g % 2 ≡ 0 → ⊥) → 2 * (g / 2) + 1 ≡ g
        rest o = omega arith
