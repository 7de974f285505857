-- The facts of frames: IEEE 802.3 and 802.1Q, and the link types and cooked headers of libpcap
-- (https://www.tcpdump.org/linktypes.html).
use Rattle.std.specs.Prelude.{ℕ, Bool, not, ◌&&◌, ◌||◌, ◌==◌, nat_le, if◌then◌else◌, List, length, drop, Option, Some, None}
use Rattle.frame_facts.specs.Wire.{number_at}
use Rattle.frame_facts.specs.Ip.{ipv4, ipv6, raw_ip}
use Rattle.frame_facts.specs.declared.facts.Facts.{Facts}
use Rattle.frame_facts.specs.declared.link.Link.{Link}
use Rattle.frame_facts.specs.declared.link.Link.TheVariants as links

-- Link type 1 is Ethernet. 12, 14 and 101 are raw IP, 228 raw IPv4 and 229 raw IPv6. 113 and 276 are Linux's cooked capture,
-- versions 1 and 2.
abbrev pub link_of : ℕ → Option Link
link_of link_type =
    if link_type == 1 then Some links.Ethernet
    else if (link_type == 12) || (link_type == 14) || (link_type == 101) then Some links.RawIp
    else if link_type == 113 then Some links.Cooked
    else if link_type == 228 then Some links.RawIpv4
    else if link_type == 229 then Some links.RawIpv6
    else if link_type == 276 then Some links.CookedTwo
    else None

-- IEEE 802 numbers: type 0x0800 is IPv4, and 0x86dd IPv6.
abbrev pub by_type : Option (ℕ × ℕ) → ℕ → List ℕ → Option Facts
by_type ether ether_type packet =
    if ether_type == 0x0800 then ipv4 ether packet
    else if ether_type == 0x86dd then ipv6 ether packet
    else None

-- IEEE 802.1Q: 0x8100 is the type of a customer tag, and 0x88a8 of a service tag.
abbrev pub is_tag : ℕ → Bool
is_tag ether_type = (ether_type == 0x8100) || (ether_type == 0x88a8)

-- What follows a type, under at most one tag. A tag has two bytes, and then the type of what it holds.
unfoldable pub one_tag : Option (ℕ × ℕ) → ℕ → List ℕ → Option Facts
one_tag ether ether_type bytes =
    if is_tag ether_type then (if nat_le 4 (length bytes) then by_type ether (number_at bytes 2 2) (drop 4 bytes) else None)
    else by_type ether ether_type bytes

-- What follows a type, under at most two tags.
unfoldable pub two_tags : Option (ℕ × ℕ) → ℕ → List ℕ → Option Facts
two_tags ether ether_type bytes =
    if is_tag ether_type then (if nat_le 4 (length bytes) then one_tag ether (number_at bytes 2 2) (drop 4 bytes) else None)
    else by_type ether ether_type bytes

-- IEEE 802.3: the destination address is the first six bytes, and the source address the next six. The
-- result has the source first.
abbrev pub ether_addresses : List ℕ → ℕ × ℕ
ether_addresses frame = (number_at frame 6 6, number_at frame 0 6)

-- The type follows both addresses. A frame has two tags at most.
abbrev pub ethernet : List ℕ → Option Facts
ethernet frame = if nat_le 14 (length frame) then two_tags (Some (ether_addresses frame)) (number_at frame 12 2) (drop 14 frame) else None

-- A cooked header has a type of Ethernet, except on Frame Relay (770), 802.11 with radiotap (803) and netlink (824).
abbrev pub has_ether_type : ℕ → Bool
has_ether_type hardware = not ((hardware == 770) || (hardware == 803) || (hardware == 824))

-- LINKTYPE_LINUX_SLL: 16 bytes, with the kind of hardware (ARPHRD) at 2 and the type at 14. It has no destination address, so
-- there are no addresses of Ethernet.
abbrev pub cooked : List ℕ → Option Facts
cooked frame =
    if nat_le 16 (length frame) && has_ether_type (number_at frame 2 2) then two_tags None (number_at frame 14 2) (drop 16 frame)
    else None

-- LINKTYPE_LINUX_SLL2: 20 bytes, with the type at 0 and the kind of hardware at 8.
abbrev pub cooked_two : List ℕ → Option Facts
cooked_two frame =
    if nat_le 20 (length frame) && has_ether_type (number_at frame 8 2) then two_tags None (number_at frame 0 2) (drop 20 frame)
    else None

-- the facts of a frame, or none if it isn't a packet of IP, or if a byte up to the end of its addresses is missing
abbrev pub facts : Link → List ℕ → Option Facts
facts links.Ethernet frame = ethernet frame
facts links.RawIp frame = raw_ip frame
facts links.RawIpv4 frame = ipv4 None frame
facts links.RawIpv6 frame = ipv6 None frame
facts links.Cooked frame = cooked frame
facts links.CookedTwo frame = cooked_two frame
