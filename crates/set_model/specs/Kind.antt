-- The kinds of fields.
use Rattle.std.specs.Prelude.{ℕ}
use Rattle.set_model.specs.declared.kind.Kind.{Kind}
use Rattle.set_model.specs.declared.kind.Kind.TheVariants.{Ipv4, Ipv6, Ether, Proto, Service, Mark}

-- How many bits a value of a kind has (nft(8), data types).
abbrev pub bits_of : Kind → ℕ
bits_of Ipv4 = 32
bits_of Ipv6 = 128
bits_of Ether = 48
bits_of Proto = 8
bits_of Service = 16
bits_of Mark = 32
