-- The words that keep a row.
use Rattle.std.specs.Prelude.{◌≡◌, ℕ, ◌-◌, ◌*◌, ◌/◌, ◌%◌, ◌^◌, ◌<◌, ◌≤◌, min, Bool, true, false, cond, List, map, length, slice_index}
use Rattle.std.specs.List.{range_with_len}
use Rattle.bit_rows.specs.Row.{bit, lies}

-- the bit at place i, over all words, 64 to a word
unfoldable pub bit_in : List ℕ → ℕ → Bool
bit_in words i = bit (slice_index words (i / 64)) (i % 64)

-- the first len places
unfoldable pub first_bits : List ℕ → ℕ → List Bool
first_bits words len = map (bit_in words) (range_with_len 0 len)

-- how many places n words have, as a u32
abbrev pub places_in : ℕ → ℕ
places_in n = min (64 * n) (2 ^ 32 - 1)

-- the places from `len` on are not set
abbrev pub IsClearFrom : List ℕ → ℕ → Type 0
IsClearFrom words len = (i : ℕ) → len ≤ i → bit_in words i ≡ false

-- these words keep a row of len places
pub record IsRow (words : List ℕ) (len : ℕ) : Type 0 where
  pub steps : length words % 8 ≡ 0
  pub small : length words ≤ 2 ^ 26
  pub within : len ≤ 64 * length words
  pub clear : IsClearFrom words len

-- These words keep a row of len places, and no other memory is taken.
pub record IsStored (words : List ℕ) (len capacity : ℕ) : Type 0 where
  pub row : IsRow words len
  pub full : capacity ≡ length words

-- r is the least set place over the words, from `from` up to `end`
pub record IsNextPlace (words : List ℕ) (from end r : ℕ) : Type 0 where
  pub from_on : from ≤ r
  pub within : r < end
  pub set : bit_in words r ≡ true
  pub least : (i : ℕ) → from ≤ i → i < r → bit_in words i ≡ false

-- the words from `from` up to `to` are what f gives for their number, and the others are unchanged
pub record IsWritten (f : ℕ → ℕ) (from to : ℕ) (old new : List ℕ) : Type 0 where
  pub word : (k : ℕ) → slice_index new k ≡ cond (lies from to k) (f k) (slice_index old k)
