-- The names of kinds.
use Rattle.std.specs.Prelude.{ℕ, List, codes}
use Rattle.set_model.specs.declared.kind.Kind.{Kind}
use Rattle.set_model.specs.declared.kind.Kind.TheVariants.{Ipv4, Ipv6, Ether, Proto, Service, Mark}

-- the name of a kind in nft(8)
abbrev pub kind_text : Kind → List ℕ
kind_text Ipv4 = codes "ipv4_addr"
kind_text Ipv6 = codes "ipv6_addr"
kind_text Ether = codes "ether_addr"
kind_text Proto = codes "inet_proto"
kind_text Service = codes "inet_service"
kind_text Mark = codes "mark"
