-- Words of a row of rules.
use Rattle.std.specs.Prelude.{◌≡◌, ℕ, ◌+◌, ◌*◌, ◌<◌, ◌≤◌, Bool, true, false, List, map}
use Rattle.std.specs.List.{range_with_len}
use Rattle.bit_rows.specs.Row.{at, bit}

-- a number of 128 bits as a row of 128 rules, the first in the lowest bit
abbrev pub small_row : ℕ → List Bool
small_row row = map (bit row) (range_with_len 0 128)

-- Word i of a row: its 64 places from place 64 * i on, the first in the lowest bit. Past the row's end nothing is set.
pub record IsWordOf (row : List Bool) (i word : ℕ) : Type 0 where
  pub bits : (k : ℕ) → k < 64 → bit word k ≡ at row (64 * i + k)

-- Word i of a row, cut at the number of rules. These rules may be left.
pub record IsLeft (rules : ℕ) (row : List Bool) (i word : ℕ) : Type 0 where
  pub bits : (k : ℕ) → k < 64 → 64 * i + k < rules → bit word k ≡ at row (64 * i + k)

-- No bit of word i is set past n rules.
pub record IsWithinRules (n i word : ℕ) : Type 0 where
  pub rule : (k : ℕ) → k < 64 → bit word k ≡ true → 64 * i + k < n

-- k is the least set bit from `from` on
pub record IsNextBit (word from k : ℕ) : Type 0 where
  pub from_on : from ≤ k
  pub within : k < 64
  pub set : bit word k ≡ true
  pub least : (j : ℕ) → from ≤ j → j < k → bit word j ≡ false

-- the end of a run of set bits that begins with bit `from`
pub record IsRunEnd (word from end : ℕ) : Type 0 where
  pub some : from < end
  pub within : end ≤ 64
  pub set : (k : ℕ) → from ≤ k → k < end → bit word k ≡ true
