-- The texts of a value, for each kind.
use Rattle.std.specs.Prelude.{◌≡◌, ◌≤◌, ℕ, ◌⊎◌, List, length, map, codes, ◌++◌, All}
use Rattle.std.specs.List.{join_with_byte}
use Rattle.std.specs.Str.Parse.{IsNumeral, digits_value}
use Rattle.std.specs.Net.Grammar.{IsDotted, IsColonHex}
use Rattle.set_model.specs.declared.kind.Kind.{Kind}
use Rattle.set_model.specs.declared.kind.Kind.TheVariants.{Ipv4, Ipv6, Ether, Proto, Service, Mark}
use Rattle.addr_text.specs.Numbers.{big_endian, IsNumberUpTo, IsHexUpTo}
use Rattle.addr_text.specs.Protocols.{IsProtocolName}

-- four octets with dots between them
pub record IsIpv4 (text : List ℕ) (n : ℕ) : Type 0 where
  pub octets : List ℕ
  pub dotted : IsDotted text octets
  pub value : n ≡ big_endian 256 octets

-- eight groups of 16 bits, in one of the three forms of RFC 4291, section 2.2
pub record IsIpv6 (text : List ℕ) (n : ℕ) : Type 0 where
  pub segments : List ℕ
  pub colon_hex : IsColonHex text segments
  pub value : n ≡ big_endian 65536 segments

-- one or two hexadecimal digits
abbrev pub IsOctet : List ℕ → Type 0
IsOctet text = IsNumeral 16 text × (length text ≤ 2)

-- six octets with colons between them (IEEE 802)
pub record IsEther (text : List ℕ) (n : ℕ) : Type 0 where
  pub groups : List (List ℕ)
  pub six : length groups ≡ 6
  pub each : All IsOctet groups
  pub spelled : text ≡ join_with_byte 58 groups
  pub value : n ≡ big_endian 256 (map (digits_value 16) groups)

-- `0x` and one to eight hexadecimal digits
pub record IsHexMark (text : List ℕ) (n : ℕ) : Type 0 where
  pub digits : List ℕ
  pub spelled : text ≡ codes "0x" ++ digits
  pub hex : IsHexUpTo 8 digits n

-- the text means this value of the kind
abbrev pub IsValue : Kind → List ℕ → ℕ → Type 0
IsValue Ipv4 text n = IsIpv4 text n
IsValue Ipv6 text n = IsIpv6 text n
IsValue Ether text n = IsEther text n
IsValue Proto text n = IsNumberUpTo 255 text n ⊎ IsProtocolName text n
IsValue Service text n = IsNumberUpTo 65535 text n
IsValue Mark text n = IsNumberUpTo 4294967295 text n ⊎ IsHexMark text n
