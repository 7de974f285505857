-- The buckets that a table has, as text.
use Rattle.std.specs.Prelude.{◌≡◌, ℕ, ◌+◌, ◌/◌, ◌^◌, ◌<◌, Bool, List, length, map}
use Rattle.std.specs.List.{flat_map, range_with_len}
use Rattle.bit_rows.specs.Row.{Row}
use Rattle.lookup_table.specs.Table.{bucket_at, bucket_place}
use Rattle.lookup_table.specs.declared.table.FieldTable.{FieldTable}
use Rattle.set_report.specs.DumpText.{runs_from, runs_text}

-- the bitmap of bucket j
abbrev pub bits_at : List Row → ℕ → List Bool
bits_at buckets j = (bucket_at buckets j).bits

-- the bitmaps of the n rows from row v on
abbrev pub bitmaps_of : List Row → ℕ → ℕ → List (List Bool)
bitmaps_of rows v n = map (bits_at rows) (range_with_len v n)

-- the bitmaps of the n buckets from value v on; the bucket of value 0 is at place `first`
abbrev pub bitmaps_at : List Row → ℕ → ℕ → ℕ → List (List Bool)
bitmaps_at buckets first v n = map (λ w. bits_at buckets (first + w)) (range_with_len v n)

-- The n rows have the bitmaps of the n buckets from place `first` on.
pub record AreRowsFrom (buckets : List Row) (first n : ℕ) (rows : List Row) : Type 0 where
  pub long : length rows ≡ n
  pub bits : (v : ℕ) → v < n → bits_at rows v ≡ bits_at buckets (first + v)

-- the lines of group g
abbrev pub buckets_text : FieldTable → ℕ → List ℕ
buckets_text t g = runs_text g (runs_from 0 (bitmaps_at t.buckets.rows (bucket_place t.width g 0) 0 (2 ^ t.width)))

-- the lines of all groups
abbrev pub all_buckets_text : FieldTable → List ℕ
all_buckets_text t = flat_map (buckets_text t) (range_with_len 0 (t.bits / t.width))
