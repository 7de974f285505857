-- The longest runs of neighbouring buckets, found from the front.
use Rattle.std.proofs.Common.{◌≡◌, refl, sym, ◌∙◌, ap, ℕ, zero, suc, ◌+◌, ◌-◌, ◌<◌, ◌≤◌, Bool, true, false, cond, List, [], ◌∷◌, ◌++◌, map, filter, flat_map, append-nil, arith, slice_get, Some}
use Rattle.std.specs.List.{range_with_len}
use Rattle.std.specs.Bool.{Decides}
use Rattle.std.proofs.lemmas.Bool.{false_from_ne_true}
use Rattle.std.proofs.lemmas.Option.{get_or_from_slice_get}
use Rattle.std.proofs.lemmas.Slice.Eq.{slice_eq-Decides}
use Rattle.bit_rows.specs.Row.{Row}
use Rattle.set_report.specs.DumpText.{BucketRun, same_bit, same_bitmap, with_bucket, runs_from, is_any_set, run_line, runs_text}
use Rattle.set_report.specs.DumpBuckets.{bits_at, bitmaps_of}

bit-Decides : (x y : Bool) → Decides (same_bit x y) (x ≡ y)
bit-Decides true true = (λ e. refl, λ e. refl)
bit-Decides true false = (λ e. sym e, λ e. sym e)
bit-Decides false true = (λ e. e, λ e. e)
bit-Decides false false = (λ e. refl, λ e. refl)

pub same-Decides : (xs ys : List Bool) → Decides (same_bitmap xs ys) (xs ≡ ys)
same-Decides xs ys = slice_eq-Decides bit-Decides xs ys (same_bitmap xs ys) refl

same-to : (xs ys : List Bool) → xs ≡ ys → same_bitmap xs ys ≡ true
same-to xs ys e = (same-Decides xs ys).1 e

other-to : (xs ys : List Bool) → (xs ≡ ys → ⊥) → same_bitmap xs ys ≡ false
other-to xs ys no_way = false_from_ne_true (same_bitmap xs ys) (λ e. no_way ((same-Decides xs ys).0 e))

-- a bucket with the bitmap of the first run belongs to it
joins : (v : ℕ) (bits : List Bool) (run : BucketRun) (runs : List BucketRun) → bits ≡ run.bitmap
    → with_bucket v bits (run ∷ runs) ≡ record { from = v; to = run.to; bitmap = bits } ∷ runs
joins v bits run runs e =
    ap (λ t. cond t (record { from = v; to = run.to; bitmap = bits } ∷ runs) (record { from = v; to = v; bitmap = bits } ∷ run ∷ runs)) (same-to bits run.bitmap e)

-- a bucket with another bitmap is a run of its own
begins : (v : ℕ) (bits : List Bool) (run : BucketRun) (runs : List BucketRun) → (bits ≡ run.bitmap → ⊥)
    → with_bucket v bits (run ∷ runs) ≡ record { from = v; to = v; bitmap = bits } ∷ run ∷ runs
begins v bits run runs other =
    ap (λ t. cond t (record { from = v; to = run.to; bitmap = bits } ∷ runs) (record { from = v; to = v; bitmap = bits } ∷ run ∷ runs)) (other-to bits run.bitmap other)

-- the first run has the bitmap of the first bucket
pub record IsHead (bits : List Bool) (runs : List BucketRun) : Type 0 where
  first : BucketRun
  rest : List BucketRun
  is : runs ≡ first ∷ rest
  same : first.bitmap ≡ bits

head-of : (v : ℕ) (bits : List Bool) (runs : List BucketRun) → IsHead bits (with_bucket v bits runs)
head-of v bits [] = record { first = record { from = v; to = v; bitmap = bits }; rest = []; is = refl; same = refl }
head-of v bits (run ∷ runs) = by (same_bitmap bits run.bitmap) where
  by : (t : Bool) → IsHead bits (cond t (record { from = v; to = run.to; bitmap = bits } ∷ runs) (record { from = v; to = v; bitmap = bits } ∷ run ∷ runs))
  by true = record { first = record { from = v; to = run.to; bitmap = bits }; rest = runs; is = refl; same = refl }
  by false = record { first = record { from = v; to = v; bitmap = bits }; rest = run ∷ runs; is = refl; same = refl }

-- a bucket in front of runs of which the first has another bitmap
apart : (v : ℕ) (bits others : List Bool) (runs : List BucketRun) → IsHead others runs → (others ≡ bits → ⊥)
    → with_bucket v bits runs ≡ record { from = v; to = v; bitmap = bits } ∷ runs
apart v bits others runs h other =
    ap (with_bucket v bits) h.is ∙ begins v bits h.first h.rest (λ e. other (sym h.same ∙ sym e)) ∙ ap (λ rs. record { from = v; to = v; bitmap = bits } ∷ rs) (sym h.is)

module _ (f : ℕ → List Bool) where
  -- the runs of the n buckets from v on
  abbrev pub runs_of : ℕ → ℕ → List BucketRun
  runs_of v n = runs_from v (map f (range_with_len v n))

  alone : (v n : ℕ) → (0 < n → f (v + 1) ≡ f v → ⊥) → runs_of v (suc n) ≡ record { from = v; to = v; bitmap = f v } ∷ runs_of (v + 1) n
  alone v zero other = refl
  alone v (suc n) other = apart v (f v) (f (v + 1)) (runs_of (v + 1) (suc n)) (head-of (v + 1) (f (v + 1)) (runs_of (v + 1 + 1) n)) (other (omega arith))

  -- Where the first k + 1 of m buckets have one bitmap and the next one, if there is one, another, they are the first run.
  first_run : (k v n m w : ℕ) → m ≡ suc (k + n) → w ≡ v + suc k → ((j : ℕ) → j ≤ k → f (v + j) ≡ f v) → (0 < n → f w ≡ f v → ⊥)
      → runs_of v m ≡ record { from = v; to = v + k; bitmap = f v } ∷ runs_of w n
  first_run zero v n m w e d same other =
      let count : m ≡ suc n = omega arith in
      let next : w ≡ v + 1 = omega arith in
      let last : v ≡ v + 0 = omega arith in
      ap (runs_of v) count
      ∙ alone v n (λ h g. other h (ap f next ∙ g))
      ∙ ap (λ t. record { from = v; to = t; bitmap = f v } ∷ runs_of (v + 1) n) last
      ∙ ap (λ t. record { from = v; to = v + 0; bitmap = f v } ∷ runs_of t n) (sym next)
  first_run (suc k) v n m w e d same other =
      let count : m ≡ suc (suc (k + n)) = omega arith in
      let second : f (v + 1) ≡ f v = same 1 (omega arith) in
      let inner = first_run k (v + 1) n (suc (k + n)) w refl (omega arith)
      (λ j h. let at : v + 1 + j ≡ v + (1 + j) = omega arith in ap f at ∙ same (1 + j) (omega arith) ∙ sym second)
      (λ h g. other h (g ∙ second)) in
      let last : v + 1 + k ≡ v + suc k = omega arith in
      ap (runs_of v) count
      ∙ ap (with_bucket v (f v)) inner
      ∙ joins v (f v) (record { from = v + 1; to = v + 1 + k; bitmap = f (v + 1) }) (runs_of w n) (sym second)
      ∙ ap (λ t. record { from = v; to = t; bitmap = f v } ∷ runs_of w n) last

  -- the same by the number of the first run's buckets
  pub run_of_len : (len v count : ℕ) → 0 < len → v + len ≤ count → ((j : ℕ) → j < len → f (v + j) ≡ f v) → (v + len < count → f (v + len) ≡ f v → ⊥)
      → runs_of v (count - v) ≡ record { from = v; to = v + len - 1; bitmap = f v } ∷ runs_of (v + len) (count - (v + len))
  run_of_len zero v count some within same other = absurd (omega arith)
  run_of_len (suc k) v count some within same other =
      let last : v + k ≡ v + suc k - 1 = omega arith in
      first_run k v (count - (v + suc k)) (count - v) (v + suc k) (omega arith) refl (λ j h. same j (omega arith)) (λ h. other (omega arith))
      ∙ ap (λ t. record { from = v; to = t; bitmap = f v } ∷ runs_of (v + suc k) (count - (v + suc k))) last

-- ---- buckets of a table

pub at-bits : (rows : List Row) (j : ℕ) (row : Row) → slice_get rows j ≡ Some row → bits_at rows j ≡ row.bits
at-bits rows j row e = ap (λ r. r.bits) (get_or_from_slice_get rows j row _ e)

-- the lines of a run and of those after it
runs-cons : (g : ℕ) (run : BucketRun) (runs : List BucketRun) → runs_text g (run ∷ runs) ≡ runs_text g (run ∷ []) ++ runs_text g runs
runs-cons g run runs = by (is_any_set run.bitmap) where
  others : List BucketRun
  others = filter (λ r. is_any_set r.bitmap) runs

  by : (t : Bool) → flat_map (run_line g) (cond t (run ∷ others) others) ≡ flat_map (run_line g) (cond t (run ∷ []) []) ++ flat_map (run_line g) others
  by true = ap (λ t. t ++ flat_map (run_line g) others) (sym (append-nil (run_line g run)))
  by false = refl

-- what is left of a group's lines: those of the first run, and then the others
pub lines-more : (g : ℕ) (rows : List Row) (from count len : ℕ) (row : Row) → 0 < len → from + len ≤ count → slice_get rows from ≡ Some row
    → ((k : ℕ) → k < len → bits_at rows (from + k) ≡ bits_at rows from)
    → (from + len < count → bits_at rows (from + len) ≡ bits_at rows from → ⊥)
    → runs_text g (runs_from from (bitmaps_of rows from (count - from)))
    ≡ runs_text g (record { from = from; to = from + len - 1; bitmap = row.bits } ∷ []) ++ runs_text g (runs_from (from + len) (bitmaps_of rows (from + len) (count - (from + len))))
lines-more g rows from count len row some within at same other =
    let rest = runs_from (from + len) (bitmaps_of rows (from + len) (count - (from + len))) in
    ap (runs_text g) (run_of_len (bits_at rows) len from count some within same other)
    ∙ runs-cons g (record { from = from; to = from + len - 1; bitmap = bits_at rows from }) rest
    ∙ ap (λ bits. runs_text g (record { from = from; to = from + len - 1; bitmap = bits } ∷ []) ++ runs_text g rest) (at-bits rows from row at)
