-- The facts of IP packets: RFC 791 (IPv4) and RFC 8200 (IPv6).
use Rattle.std.specs.Prelude.{ℕ, suc, ◌*◌, ◌/◌, ◌%◌, ◌^◌, Bool, true, false, ◌&&◌, ◌==◌, nat_lt, nat_le, if◌then◌else◌, List, length, drop, slice_index, Option, Some, None}
use Rattle.frame_facts.specs.Wire.{number_at}
use Rattle.frame_facts.specs.Transports.{whole, later, after_headers}
use Rattle.frame_facts.specs.declared.facts.Facts.{Facts}
use Rattle.frame_facts.specs.declared.facts.Transport.{Transport}

-- RFC 791 and RFC 8200: the version is the first four bits.
abbrev pub has_version : ℕ → List ℕ → Bool
has_version version packet = nat_lt 0 (length packet) && (slice_index packet 0 / 16 == version)

-- RFC 791: the low half of the first byte counts the header's units of four bytes.
abbrev pub ipv4_header : List ℕ → ℕ
ipv4_header packet = 4 * (slice_index packet 0 % 16)

-- RFC 791: the low 13 bits of bytes 6 and 7 say where in its datagram a fragment begins.
abbrev pub fragment_offset : List ℕ → ℕ
fragment_offset packet = number_at packet 6 2 % 2 ^ 13

-- A header of IPv4 has 20 bytes at least, and these were kept.
abbrev pub is_ipv4 : List ℕ → Bool
is_ipv4 packet = has_version 4 packet && nat_le 20 (ipv4_header packet) && nat_le 20 (length packet)

-- The protocol is byte 9. In the first fragment its header follows.
abbrev pub ipv4_transport : List ℕ → Transport
ipv4_transport packet =
    if fragment_offset packet == 0 then whole (slice_index packet 9) (drop (ipv4_header packet) packet) else later (slice_index packet 9)

-- RFC 791: the source address is bytes 12 to 15, and the destination address bytes 16 to 19.
abbrev pub ipv4_facts : Option (ℕ × ℕ) → List ℕ → Facts
ipv4_facts ether packet = record {
  ether = ether;
  six = false;
  source = number_at packet 12 4;
  dest = number_at packet 16 4;
  transport = Some (ipv4_transport packet);
}

-- The 40 bytes of a header of IPv6 were kept.
abbrev pub is_ipv6 : List ℕ → Bool
is_ipv6 packet = has_version 6 packet && nat_le 40 (length packet)

-- The next header is byte 6.
abbrev pub ipv6_transport : List ℕ → Option Transport
ipv6_transport packet = after_headers (suc (length (drop 40 packet))) (slice_index packet 6) (drop 40 packet)

-- RFC 8200: the source address is bytes 8 to 23 and the destination address bytes 24 to 39.
abbrev pub ipv6_facts : Option (ℕ × ℕ) → List ℕ → Facts
ipv6_facts ether packet = record {
  ether = ether;
  six = true;
  source = number_at packet 8 16;
  dest = number_at packet 24 16;
  transport = ipv6_transport packet;
}

abbrev pub ipv4 : Option (ℕ × ℕ) → List ℕ → Option Facts
ipv4 ether packet = if is_ipv4 packet then Some (ipv4_facts ether packet) else None

abbrev pub ipv6 : Option (ℕ × ℕ) → List ℕ → Option Facts
ipv6 ether packet = if is_ipv6 packet then Some (ipv6_facts ether packet) else None

-- The version of raw IP says whether it is IPv4 or IPv6.
abbrev pub raw_ip : List ℕ → Option Facts
raw_ip packet = if has_version 6 packet then ipv6 None packet else ipv4 None packet
