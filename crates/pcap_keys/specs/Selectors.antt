-- The selectors of a plan: the words that name them, their kinds, and what they select.
use Rattle.std.specs.Prelude.{ℕ, List, Bool, not, is_some, Option, Some, None, codes, bytes_eq, if◌then◌else◌}
use Rattle.set_model.specs.declared.kind.Kind.{Kind}
use Rattle.set_model.specs.declared.kind.Kind.TheVariants as kinds
use Rattle.frame_facts.specs.declared.facts.Facts.{Facts}
use Rattle.frame_facts.specs.Values.{first_of, second_of, proto_of, ports_in}
use Rattle.pcap_keys.specs.declared.selector.Selector.{Selector}
use Rattle.pcap_keys.specs.declared.selector.Selector.TheVariants.{IpSource, IpDest, Ip6Source, Ip6Dest, EtherSource, EtherDest, Proto, SourcePort, DestPort}

abbrev pub ipv4_selector : List ℕ → Option Selector
ipv4_selector t = if bytes_eq t (codes "ip_saddr") then Some IpSource else if bytes_eq t (codes "ip_daddr") then Some IpDest else None

abbrev pub ipv6_selector : List ℕ → Option Selector
ipv6_selector t = if bytes_eq t (codes "ip6_saddr") then Some Ip6Source else if bytes_eq t (codes "ip6_daddr") then Some Ip6Dest else None

abbrev pub ether_selector : List ℕ → Option Selector
ether_selector t = if bytes_eq t (codes "ether_saddr") then Some EtherSource else if bytes_eq t (codes "ether_daddr") then Some EtherDest else None

abbrev pub proto_selector : List ℕ → Option Selector
proto_selector t = if bytes_eq t (codes "proto") then Some Proto else None

abbrev pub port_selector : List ℕ → Option Selector
port_selector t = if bytes_eq t (codes "sport") then Some SourcePort else if bytes_eq t (codes "dport") then Some DestPort else None

-- The selector of a kind that a word names. There is none for marks, since no packet has a mark.
abbrev pub selector_of : Kind → List ℕ → Option Selector
selector_of kinds.Ipv4 t = ipv4_selector t
selector_of kinds.Ipv6 t = ipv6_selector t
selector_of kinds.Ether t = ether_selector t
selector_of kinds.Proto t = proto_selector t
selector_of kinds.Service t = port_selector t
selector_of kinds.Mark t = None

-- Whether facts have what a selector selects. Facts of IPv4 have its addresses, facts of IPv6 have
-- those of IPv6, and facts of an Ethernet frame have its addresses. The protocol is known if no extension header is missing, and
-- the ports if the protocol has them and they were kept.
abbrev pub is_in : Facts → Selector → Bool
is_in facts IpSource = not facts.six
is_in facts IpDest = not facts.six
is_in facts Ip6Source = facts.six
is_in facts Ip6Dest = facts.six
is_in facts EtherSource = is_some facts.ether
is_in facts EtherDest = is_some facts.ether
is_in facts Proto = is_some facts.transport
is_in facts SourcePort = is_some (ports_in facts.transport)
is_in facts DestPort = is_some (ports_in facts.transport)

-- what a selector selects of facts that have it
abbrev pub selected_value : Facts → Selector → ℕ
selected_value facts IpSource = facts.source
selected_value facts IpDest = facts.dest
selected_value facts Ip6Source = facts.source
selected_value facts Ip6Dest = facts.dest
selected_value facts EtherSource = first_of facts.ether
selected_value facts EtherDest = second_of facts.ether
selected_value facts Proto = proto_of facts.transport
selected_value facts SourcePort = first_of (ports_in facts.transport)
selected_value facts DestPort = second_of (ports_in facts.transport)
