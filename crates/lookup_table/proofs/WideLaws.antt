-- A table in groups of eight bits, from one in groups of four.
use Rattle.std.proofs.Common.{◌≡◌, refl, sym, ◌∙◌, ap, ℕ, ◌+◌, ◌*◌, ◌/◌, ◌%◌, ◌^◌, ◌<◌, ◌⊎◌, All, ◌&&◌, Bool, false, List, length, replicate, arith, inl, inr, subst}
use Rattle.std.proofs.lemmas.Bool.{cases_eq}
use Rattle.std.proofs.lemmas.List.{length-replicate}
use Rattle.set_model.specs.declared.block.Block.{Block}
use Rattle.bit_rows.specs.Row.{Row, at, both}
use Rattle.bit_rows.proofs.Rows.{at-both, length-both}
use Rattle.field_groups.specs.Groups.{agrees, IsWidth}
use Rattle.field_groups.proofs.HalfLaws.{agrees-halves}
use Rattle.lookup_table.specs.Table.{bucket_at, bucket_place, cell, IsShaped, block_at, StandsFor}
use Rattle.lookup_table.specs.Rows.{IsWide, IsPut}
use Rattle.lookup_table.proofs.RowsLaws.{cell-is, All-bucket, bucket-All}

-- ---- buckets made one after another

-- P holds of each of the first n buckets, of so many
pub record Made (P : ℕ → Row → Type 0) (count rules n : ℕ) (rows : List Row) : Type 0 where
  pub long : length rows ≡ count
  pub sizes : (j : ℕ) → j < count → length (bucket_at rows j).bits ≡ rules
  pub at : (j : ℕ) → j < n → P j (bucket_at rows j)

pub made-none : (P : ℕ → Row → Type 0) (count rules : ℕ) (rows : List Row) → length rows ≡ count → All (λ row. row.bits ≡ replicate rules false) rows → Made P count rules 0 rows
made-none P count rules rows long zeros = record {
  long = long;
  sizes = λ j h. ap length (All-bucket (λ (x : Row). x.bits ≡ replicate rules false) rows j zeros (omega arith)) ∙ length-replicate rules false;
  at = λ j h. absurd (omega arith);
}

pub made-more : (P : ℕ → Row → Type 0) (count rules n : ℕ) (old new : List Row) (row : Row) → ((j : ℕ) (a b : Row) → b.bits ≡ a.bits → P j a → P j b) → P n row → IsPut n row.bits old new → Made P count rules n old
    → Made P count rules (n + 1) new
made-more P count rules n old new row same here put so_far = record {
  long = put.size.long ∙ so_far.long;
  sizes = λ j h. put.size.bits j ∙ so_far.sizes j h;
  at = λ j h. go j h (cases_eq j n);
} where
  go : (j : ℕ) → j < n + 1 → (j ≡ n) ⊎ (j ≡ n → ⊥) → P j (bucket_at new j)
  go j h (inl e) = subst (λ i. P i (bucket_at new i)) (sym e) (same n row (bucket_at new n) put.row here)
  go j h (inr differs) = same j (bucket_at old j) (bucket_at new j) (put.others j differs) (so_far.at j (less h differs)) where
    less : j < n + 1 → (j ≡ n → ⊥) → j < n
    less a b = omega arith

-- such buckets are a table's
pub made-shape : (P : ℕ → Row → Type 0) (width bits rules count n : ℕ) (rows : List Row) → IsWidth width bits → count ≡ bits / width * 2 ^ width → Made P count rules n rows → IsShaped width bits rules rows
made-shape P width bits rules count n rows w e done = record {
  groups = w;
  count = done.long ∙ e;
  rows = bucket-All (λ (x : Row). length x.bits ≡ rules) rows (λ j h. done.sizes j (omega (arith, done.long)));
}

-- ---- groups of eight

pub wide-groups : (bits : ℕ) → IsWidth 4 bits → IsWidth 8 bits
wide-groups bits w = record { fours = refl; four = omega arith; eight = omega arith; bytes = w.bytes; some = w.some; most = w.most }

pub wide-is : (old : List Row) (rules j : ℕ) (first row : Row) → first.bits ≡ (bucket_at old (bucket_place 4 (2 * (j / 2 ^ 8)) (j % 2 ^ 8 / 2 ^ 4))).bits
    → length (bucket_at old (bucket_place 4 (2 * (j / 2 ^ 8)) (j % 2 ^ 8 / 2 ^ 4))).bits ≡ rules → length (bucket_at old (bucket_place 4 (2 * (j / 2 ^ 8) + 1) (j % 2 ^ 8 % 2 ^ 4))).bits ≡ rules
    → row.bits ≡ both first.bits (bucket_at old (bucket_place 4 (2 * (j / 2 ^ 8) + 1) (j % 2 ^ 8 % 2 ^ 4))).bits → IsWide old rules j row
wide-is old rules j first row e a b made = record {
  long = ap length made ∙ length-both first.bits other same ∙ ap length e ∙ a;
  at = λ r h. ap (λ xs. at xs r) made ∙ at-both first.bits other r same (omega (arith, ap length e)) ∙ two (ap (λ xs. at xs r) e ∙ sym (cell-is old _ r)) (sym (cell-is old _ r));
} where
  other : List Bool
  other = (bucket_at old (bucket_place 4 (2 * (j / 2 ^ 8) + 1) (j % 2 ^ 8 % 2 ^ 4))).bits

  same : length first.bits ≡ length other
  same = ap length e ∙ a ∙ sym b

  two : {p q r t : Bool} → p ≡ q → r ≡ t → (p && r) ≡ (q && t)
  two x y = cc

pub wide-same : (old : List Row) (rules j : ℕ) (a b : Row) → b.bits ≡ a.bits → IsWide old rules j a → IsWide old rules j b
wide-same old rules j a b e wide = record { long = ap length e ∙ wide.long; at = λ r h. ap (λ xs. at xs r) e ∙ wide.at r h }

pub wide-shape : (bits rules n : ℕ) (old rows : List Row) → IsShaped 4 bits rules old → Made (IsWide old rules) (bits / 8 * 256) rules n rows → IsShaped 8 bits rules rows
wide-shape bits rules n old rows shape done = made-shape (IsWide old rules) 8 bits rules (bits / 8 * 256) n rows (wide-groups bits shape.groups) refl done

pub wide-stands : (bits rules : ℕ) (old rows : List Row) (blocks : List Block) → IsWidth 4 bits → Made (IsWide old rules) (bits / 8 * 256) rules (bits / 8 * 256) rows → StandsFor 4 bits rules old blocks → StandsFor 8 bits rules rows blocks
wide-stands bits rules old rows blocks w done stands = record { one_each = stands.one_each; within = stands.within; bucket = bucket } where
  bucket : (g v r : ℕ) → g < bits / 8 → v < 2 ^ 8 → r < rules → cell rows (bucket_place 8 g v) r ≡ agrees 8 bits (block_at blocks r) g v
  bucket g v r h k l =
      let e : (g * 2 ^ 8 + v) / 2 ^ 8 ≡ g = omega arith in
      let f : (g * 2 ^ 8 + v) % 2 ^ 8 ≡ v = omega arith in
      let wide = (done.at (g * 2 ^ 8 + v) (omega arith)).at r l in
      cell-is rows (g * 2 ^ 8 + v) r ∙ wide
      ∙ ap (λ x. cell old (2 * x * 2 ^ 4 + (g * 2 ^ 8 + v) % 2 ^ 8 / 2 ^ 4) r && cell old ((2 * x + 1) * 2 ^ 4 + (g * 2 ^ 8 + v) % 2 ^ 8 % 2 ^ 4) r) e
      ∙ ap (λ x. cell old (2 * g * 2 ^ 4 + x / 2 ^ 4) r && cell old ((2 * g + 1) * 2 ^ 4 + x % 2 ^ 4) r) f
      ∙ two (stands.bucket (2 * g) (v / 2 ^ 4) r (omega (arith, w.bytes)) (omega arith) l) (stands.bucket (2 * g + 1) (v % 2 ^ 4) r (omega (arith, w.bytes)) (omega arith) l)
      ∙ sym (agrees-halves bits g (block_at blocks r) v (omega arith) k) where
        two : {p q r t : Bool} → p ≡ q → r ≡ t → (p && r) ≡ (q && t)
        two x y = cc
