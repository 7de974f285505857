-- Rows that are made of buckets, their lines, and the text of one item more.
use Rattle.std.proofs.Common.{◌≡◌, sym, ◌∙◌, ap, ℕ, zero, suc, ◌+◌, ◌<◌, ◌≤◌, ◌⊎◌, inl, inr, List, [], ◌∷◌, ◌++◌, append-nil, append_assoc, flat_map, take, length, slice_get, Some, arith}
use Rattle.std.proofs.lemmas.Bool.{cases_eq}
use Rattle.std.proofs.lemmas.List.{get_or_append_left, get_or_push, length_push}
use Rattle.bit_rows.specs.Row.{Row}
use Rattle.set_report.specs.DumpText.{runs_from, runs_text}
use Rattle.set_report.specs.DumpBuckets.{bits_at, bitmaps_of, bitmaps_at, AreRowsFrom}
use Rattle.set_report.proofs.DumpTables.{map-same}

pub none-yet : (buckets : List Row) (first : ℕ) (rows : List Row) → rows ≡ [] → AreRowsFrom buckets first 0 rows
none-yet buckets first rows e = record { long = ap length e; bits = λ v h. absurd (omega arith) }

pub one-more : (buckets : List Row) (first n : ℕ) (rows : List Row) (row : Row) → row.bits ≡ bits_at buckets (first + n) → AreRowsFrom buckets first n rows → AreRowsFrom buckets first (n + 1) (rows ++ row ∷ [])
one-more buckets first n rows row is so_far = record { long = length_push rows row ∙ ap (λ m. m + 1) so_far.long; bits = λ v h. go v h (cases_eq v n) } where
  go : (v : ℕ) → v < n + 1 → (v ≡ n) ⊎ (v ≡ n → ⊥) → bits_at (rows ++ row ∷ []) v ≡ bits_at buckets (first + v)
  go v h (inl e) = ap (λ (r : Row). r.bits) (get_or_push rows row _ v (so_far.long ∙ sym e)) ∙ is ∙ ap (λ m. bits_at buckets (first + m)) (sym e)
  go v h (inr differs) =
      let low : v < n = omega arith in
      ap (λ (r : Row). r.bits) (get_or_append_left rows (row ∷ []) _ v (omega (arith, so_far.long))) ∙ so_far.bits v low

-- their lines are those of the buckets
pub rows-lines : (buckets : List Row) (first n g : ℕ) (rows : List Row) → AreRowsFrom buckets first n rows → runs_text g (runs_from 0 (bitmaps_of rows 0 (length rows))) ≡ runs_text g (runs_from 0 (bitmaps_at buckets first 0 n))
rows-lines buckets first n g rows are =
    ap (λ m. runs_text g (runs_from 0 (bitmaps_of rows 0 m))) are.long
    ∙ ap (λ maps. runs_text g (runs_from 0 maps)) (map-same (bits_at rows) (λ v. bits_at buckets (first + v)) 0 n (λ v low high. are.bits v (omega arith)))

-- rows of buckets of one length have one length
pub same-lengths : (buckets : List Row) (first n : ℕ) (rows : List Row) → AreRowsFrom buckets first n rows → first + n ≤ length buckets
    → ((i j : ℕ) → i < length buckets → j < length buckets → length (bits_at buckets j) ≡ length (bits_at buckets i)) → (i j : ℕ) → i < length rows → j < length rows → length (bits_at rows j) ≡ length (bits_at rows i)
same-lengths buckets first n rows are within long i j hi hj =
    let li : i < n = omega (arith, are.long) in
    let lj : j < n = omega (arith, are.long) in
    ap length (are.bits j lj) ∙ long (first + i) (first + j) (omega arith) (omega arith) ∙ sym (ap length (are.bits i li))

-- ---- the text of a list, item by item

taken-more : {X : Type 0} (f : X → List ℕ) (xs : List X) (i : ℕ) (x : X) → slice_get xs i ≡ Some x → flat_map f (take (suc i) xs) ≡ flat_map f (take i xs) ++ f x
taken-more f [] i x h = absurd (cc h)
taken-more f (y ∷ ys) zero x h = let e : y ≡ x = cc h in append-nil (f y) ∙ ap f e
taken-more f (y ∷ ys) (suc i) x h = ap (λ r. f y ++ r) (taken-more f ys i x h) ∙ sym (append_assoc (f y) (flat_map f (take i ys)) (f x))

-- The items before a place were appended, and then the item there.
pub item-more : {X : Type 0} (f : X → List ℕ) (xs : List X) (i : ℕ) (x : X) (old mid new : List ℕ) → slice_get xs i ≡ Some x → mid ≡ old ++ flat_map f (take i xs) → new ≡ mid ++ f x → new ≡ old ++ flat_map f (take (i + 1) xs)
item-more f xs i x old mid new at so_far here =
    let next : suc i ≡ i + 1 = omega arith in
    here ∙ ap (λ m. m ++ f x) so_far ∙ append_assoc old (flat_map f (take i xs)) (f x)
    ∙ ap (λ t. old ++ t) (sym (taken-more f xs i x at) ∙ ap (λ n. flat_map f (take n xs)) next)
