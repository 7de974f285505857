-- Worked examples of the definitions. They compute: a wrong number here is refused.
use Rattle.std.specs.Prelude.{◌≡◌, refl, ℕ, List, [], ◌∷◌, ◌++◌, take, false, true, Option, Some, None}
use Rattle.frame_facts.specs.declared.facts.Facts.{Facts}
use Rattle.frame_facts.specs.declared.facts.Transport.{Transport}
use Rattle.frame_facts.specs.declared.link.Link.TheVariants as links
use Rattle.frame_facts.specs.Wire.{number_at}
use Rattle.frame_facts.specs.Links.{one_tag, two_tags, facts}

-- IPv4 from 192.168.1.5 to 10.0.0.5 with these two bytes for the fragment and this protocol, and ports 1234 and 2048 after it
abbrev packet : ℕ → ℕ → ℕ → List ℕ
packet high low protocol =
    0x45 ∷ 0 ∷ 0 ∷ 0x1c ∷ 0 ∷ 0 ∷ high ∷ low ∷ 0x40 ∷ protocol ∷ 0 ∷ 0 ∷ 0xc0 ∷ 0xa8 ∷ 1 ∷ 5 ∷ 0x0a ∷ 0 ∷ 0 ∷ 5 ∷ 0x04 ∷ 0xd2 ∷ 0x08 ∷ 0 ∷ []

abbrev found : ℕ → Option (ℕ × ℕ) → Option Facts
found protocol ports = Some (record { ether = None; six = false; source = 3232235781; dest = 167772165; transport = Some (record { proto = protocol; ports = ports }) })

pub udp : facts links.RawIp (packet 0 0 17) ≡ found 17 (Some (1234, 2048))
unfolding number_at
udp = refl

pub icmp : facts links.RawIpv4 (packet 0 0 1) ≡ found 1 None
unfolding number_at
icmp = refl

pub later_fragment : facts links.RawIp (packet 0x20 1 17) ≡ found 17 None
unfolding number_at
later_fragment = refl

pub cut_ports : facts links.RawIp (take 23 (packet 0 0 17)) ≡ found 17 None
unfolding number_at
cut_ports = refl

pub cut_addresses : facts links.RawIp (take 19 (packet 0 0 17)) ≡ None
unfolding number_at
cut_addresses = refl

-- a cooked header of Ethernet, with the type of IPv4
pub cooked_udp : facts links.Cooked ((0 ∷ 0 ∷ 0 ∷ 1 ∷ 0 ∷ 6 ∷ 2 ∷ 0 ∷ 0 ∷ 0 ∷ 0 ∷ 1 ∷ 0 ∷ 0 ∷ 8 ∷ 0 ∷ []) ++ packet 0 0 17) ≡ found 17 (Some (1234, 2048))
unfolding number_at one_tag two_tags
cooked_udp = refl

-- IPv6 from 1::2 to 3::4, with this next header and these bytes after its header
abbrev six : ℕ → List ℕ → List ℕ
six next payload =
    (0x60 ∷ 0 ∷ 0 ∷ 0 ∷ 0 ∷ 0 ∷ next ∷ 64 ∷ 0 ∷ 1 ∷ 0 ∷ 0 ∷ 0 ∷ 0 ∷ 0 ∷ 0 ∷ 0 ∷ 0 ∷ 0 ∷ 0 ∷ 0 ∷ 0 ∷ 0 ∷ 2
    ∷ 0 ∷ 3 ∷ 0 ∷ 0 ∷ 0 ∷ 0 ∷ 0 ∷ 0 ∷ 0 ∷ 0 ∷ 0 ∷ 0 ∷ 0 ∷ 0 ∷ 0 ∷ 4 ∷ []) ++ payload

abbrev found_six : Option Transport → Option Facts
found_six transport = Some (record { ether = None; six = true; source = 5192296858534827628530496329220098; dest = 15576890575604482885591488987660292; transport = transport })

-- hop-by-hop options, and then TCP
pub options : facts links.RawIpv6 (six 0 (6 ∷ 0 ∷ 1 ∷ 4 ∷ 0 ∷ 0 ∷ 0 ∷ 0 ∷ 0x04 ∷ 0xd2 ∷ 0x08 ∷ 0 ∷ [])) ≡ found_six (Some (record { proto = 6; ports = Some (1234, 2048) }))
unfolding number_at
options = refl

-- a fragment at offset 1 of UDP
pub six_later_fragment : facts links.RawIpv6 (six 44 (17 ∷ 0 ∷ 0 ∷ 8 ∷ 0 ∷ 0 ∷ 0 ∷ 0 ∷ 0x04 ∷ 0xd2 ∷ 0x08 ∷ 0 ∷ [])) ≡ found_six (Some (record { proto = 17; ports = None }))
unfolding number_at
six_later_fragment = refl

-- options of which seven bytes were kept
pub cut_options : facts links.RawIpv6 (six 60 (6 ∷ 0 ∷ 1 ∷ 4 ∷ 0 ∷ 0 ∷ 0 ∷ [])) ≡ found_six None
unfolding number_at
cut_options = refl
