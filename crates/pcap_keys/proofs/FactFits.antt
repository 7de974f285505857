-- The facts of a frame are values of their kinds.
use Rattle.std.proofs.Common.{◌≡◌, ℕ, ◌<◌, ◌^◌, List, not, Bool, true, false, Option, Some, None}
use Rattle.std.specs.Prelude.{IfSome}
use Rattle.std.specs.List.{All}
use Rattle.std.proofs.lemmas.Bool.{lt-ltb}
use Rattle.set_model.specs.declared.kind.Kind.{Kind}
use Rattle.set_model.specs.declared.kind.Kind.TheVariants as kinds
use Rattle.set_model.specs.Kind.{bits_of}
use Rattle.set_model.specs.Key.{is_value}
use Rattle.frame_facts.specs.declared.facts.Facts.{Facts}
use Rattle.frame_facts.specs.declared.link.Link.{Link}
use Rattle.frame_facts.specs.Links.{facts}
use Rattle.frame_facts.specs.Values.{first_of, second_of, proto_of, ports_in, address_bits, HaveFieldBits}
use Rattle.frame_facts.proofs.Bits.{IsByte, facts_fit}
use Rattle.pcap_keys.specs.declared.selector.Selector.TheVariants.{IpSource, IpDest, Ip6Source, Ip6Dest, EtherSource, EtherDest, Proto, SourcePort, DestPort}
use Rattle.pcap_keys.specs.Fitting.{AreValues}

below : (kind : Kind) (n : ℕ) → n < 2 ^ bits_of kind → is_value kind n ≡ true
below kind n h = lt-ltb n (2 ^ bits_of kind) h

of_four : (six : Bool) (n : ℕ) → n < 2 ^ address_bits six → not six ≡ true → is_value kinds.Ipv4 n ≡ true
of_four false n h e = below kinds.Ipv4 n h
of_four true n h e = absurd (cc e)

of_six : (six : Bool) (n : ℕ) → n < 2 ^ address_bits six → six ≡ true → is_value kinds.Ipv6 n ≡ true
of_six true n h e = below kinds.Ipv6 n h
of_six false n h e = absurd (cc e)

values : (facts : Facts) → HaveFieldBits facts → AreValues facts
values facts k IpSource h = of_four facts.six facts.source k.source h
values facts k IpDest h = of_four facts.six facts.dest k.dest h
values facts k Ip6Source h = of_six facts.six facts.source k.source h
values facts k Ip6Dest h = of_six facts.six facts.dest k.dest h
values facts k EtherSource h = below kinds.Ether (first_of facts.ether) k.ether.first
values facts k EtherDest h = below kinds.Ether (second_of facts.ether) k.ether.second
values facts k Proto h = below kinds.Proto (proto_of facts.transport) k.proto
values facts k SourcePort h = below kinds.Service (first_of (ports_in facts.transport)) k.ports.first
values facts k DestPort h = below kinds.Service (second_of (ports_in facts.transport)) k.ports.second

some_values : (o : Option Facts) → IfSome o HaveFieldBits → IfSome o AreValues
some_values None k = tt
some_values (Some facts) k = values facts k

pub facts_have : (link : Link) (frame : List ℕ) → All IsByte frame → IfSome (facts link frame) AreValues
facts_have link frame all = some_values (facts link frame) (facts_fit link frame all)
