-- The number that a word is.
use Rattle.std.specs.Prelude.{ℕ, ◌&&◌, List, nat_le, bytes_eq, decimal, Option}
use Rattle.std.specs.Bool.{then_some}
use Rattle.std.specs.Str.Parse.{digits_value}

-- the number that a word is in plain digits, if it is within bounds
unfoldable pub number_within : ℕ → ℕ → List ℕ → Option ℕ
number_within low high word =
    let n = digits_value 10 word in
    then_some (bytes_eq word (decimal n) && (nat_le low n && nat_le n high)) n
