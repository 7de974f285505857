-- Numbers of the network: the most significant byte first (RFC 1700, data notation).
use Rattle.std.specs.Prelude.{ℕ, List, drop}
use Rattle.byteorder.specs.Endian.{big_number}

-- the number in the n bytes from a place on
unfoldable pub number_at : List ℕ → ℕ → ℕ → ℕ
number_at bytes place n = big_number n (drop place bytes)
