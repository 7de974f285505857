-- The value of a text, computed.
use Rattle.std.specs.Prelude.{ℕ, zero, suc, ◌+◌, ◌*◌, List, [], ◌∷◌, length, drop, slice_index, Option, Some, None, option_map, option_and_then, bytes_eq, take, ◌==◌, ◌&&◌, nat_lt, if◌then◌else◌}
use Rattle.std.specs.Option.{option_or}
use Rattle.std.specs.Net.Reader.{Read, read_byte, read_number, read_ipv4, read_ipv6, whole_value, colon, digit_zero}
use Rattle.set_model.specs.declared.kind.Kind.{Kind}
use Rattle.set_model.specs.declared.kind.Kind.TheVariants.{Ipv4, Ipv6, Ether, Proto, Service, Mark}
use Rattle.addr_text.specs.declared.value.BadValue.{BadValue}
use Rattle.addr_text.specs.Numbers.{big_endian}
use Rattle.addr_text.specs.Protocols.{protocol_number}

infixl 10 ◌>>=◌
abbrev pub ◌>>=◌ : {A B : Type 0} → Option A → (A → Option B) → Option B
o >>= f = option_and_then f o

-- the number that the whole text is, at most `most`
unfoldable pub whole_number : ℕ → ℕ → List ℕ → Option ℕ
whole_number radix most text = do
  n ← read_number radix most text
  if n.1 == length text then Some n.0 else None

-- a decimal number with no leading zero
unfoldable pub number_of : ℕ → List ℕ → Option ℕ
number_of most text =
    if nat_lt 1 (length text) && (slice_index text 0 == digit_zero) then None
    else whole_number 10 most text

-- a number of at most `longest` hexadecimal digits, and never more than eight
unfoldable pub hex_of : ℕ → List ℕ → Option ℕ
hex_of longest text = if nat_lt longest (length text) then None else whole_number 16 0xffff_ffff text

-- one or two hexadecimal digits, and the text after them
unfoldable pub read_octet : List ℕ → Read ℕ
read_octet text = do
  n ← read_number 16 255 text
  if nat_lt 2 n.1 then None else Some (n.0, drop n.1 text)

-- a colon and the octet after it
abbrev pub next_octet : List ℕ → Read ℕ
next_octet text = read_byte colon text >>= read_octet

-- so many more octets, each after a colon, up to the end of the text
unfoldable pub ether_behind : ℕ → ℕ → List ℕ → Option ℕ
ether_behind zero value text = if length text == 0 then Some value else None
ether_behind (suc more) value text =
    next_octet text >>= λ octet. ether_behind more (value * 256 + octet.0) octet.1

-- six octets
unfoldable pub ether_of : List ℕ → Option ℕ
ether_of text = read_octet text >>= λ octet. ether_behind 5 octet.0 octet.1

-- a number of 32 bits, in decimal or after `0x`
unfoldable pub mark_of : List ℕ → Option ℕ
mark_of text =
    if bytes_eq (take 2 text) (48 ∷ 120 ∷ []) then hex_of 8 (drop 2 text)
    else number_of 0xffff_ffff text

-- the value that the text means
unfoldable pub value_of : Kind → List ℕ → Option ℕ
value_of Ipv4 text = option_map (big_endian 256) (whole_value (read_ipv4 text))
value_of Ipv6 text = option_map (big_endian 65536) (whole_value (read_ipv6 text))
value_of Ether text = ether_of text
value_of Proto text = option_or (number_of 255 text) (protocol_number text)
value_of Service text = number_of 65535 text
value_of Mark text = mark_of text

-- the only value of `BadValue`
abbrev pub bad_value : BadValue
bad_value = record {}
