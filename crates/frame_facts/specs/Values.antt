-- The parts of facts, and how large they are.
use Rattle.std.specs.Prelude.{ℕ, ◌<◌, ◌^◌, Bool, true, false, Option, Some, None}
use Rattle.frame_facts.specs.declared.facts.Facts.{Facts}
use Rattle.frame_facts.specs.declared.facts.Transport.{Transport}

-- the first of two, or 0
abbrev pub first_of : Option (ℕ × ℕ) → ℕ
first_of (Some both) = both.0
first_of None = 0

-- the second of two, or 0
abbrev pub second_of : Option (ℕ × ℕ) → ℕ
second_of (Some both) = both.1
second_of None = 0

-- the number of the protocol, or 0
abbrev pub proto_of : Option Transport → ℕ
proto_of (Some transport) = transport.proto
proto_of None = 0

-- the ports, if there is a protocol that has them
abbrev pub ports_in : Option Transport → Option (ℕ × ℕ)
ports_in (Some transport) = transport.ports
ports_in None = None

-- An address of IPv4 has 32 bits, and one of IPv6 has 128.
abbrev pub address_bits : Bool → ℕ
address_bits false = 32
address_bits true = 128

-- Two numbers, if there are any, have so many bits.
pub record HaveBits (bits : ℕ) (both : Option (ℕ × ℕ)) : Type 0 where
  pub first : first_of both < 2 ^ bits
  pub second : second_of both < 2 ^ bits

-- Addresses, protocol and ports have the bits that their fields have in a frame.
pub record HaveFieldBits (facts : Facts) : Type 0 where
  pub ether : HaveBits 48 facts.ether
  pub source : facts.source < 2 ^ address_bits facts.six
  pub dest : facts.dest < 2 ^ address_bits facts.six
  pub proto : proto_of facts.transport < 2 ^ 8
  pub ports : HaveBits 16 (ports_in facts.transport)
