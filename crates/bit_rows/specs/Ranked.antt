-- How many places of a list are set before one of them. Literature on succinct bit vectors calls
-- this the rank.
use Rattle.std.specs.Prelude.{◌≡◌, ℕ, ◌+◌, ◌*◌, ◌<◌, ◌≤◌, Bool, Some, List, length, map, take, count_by, slice_get}
use Rattle.std.specs.List.{range_with_len}
use Rattle.bit_rows.specs.Row.{bit}
use Rattle.bit_rows.specs.Words.{first_bits}

-- how many of the n lowest bits of a word are set
unfoldable pub low_ones : ℕ → ℕ → ℕ
low_ones word n = count_by (λ b. b) (map (bit word) (range_with_len 0 n))

-- how many of the places before place i are set
abbrev pub rank : List Bool → ℕ → ℕ
rank bits i = count_by (λ b. b) (take i bits)

-- The words spell `len` places. For each whole page of 512 places there is the number of places
-- that are set up to its end.
pub record IsRanked (words : List ℕ) (len : ℕ) (ranks : List ℕ) : Type 0 where
  pub within : len ≤ 64 * length words
  pub pages : len < 512 * length ranks + 512
  pub each : (page r : ℕ) → slice_get ranks page ≡ Some r → r ≡ rank (first_bits words len) (512 * page + 512)
