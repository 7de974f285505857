-- Facts have the bits of their fields: a number of n bytes is below 256 to the power of n.
use Rattle.std.proofs.Common.{inl, inr, ℕ, zero, suc, ◌<◌, ◌≤◌, ◌^◌, List, length, drop, slice_index, nat_lt, nat_le, ◌==◌, ◌&&◌, not, Bool, true, false, ◌⊎◌, Option, Some, None, arith}
use Rattle.std.specs.Prelude.{IfSome, if◌then◌else◌}
use Rattle.std.specs.List.{All}
use Rattle.std.proofs.lemmas.Bool.{cases_lt}
use Rattle.std.proofs.lemmas.List.{get_or_past}
use Rattle.std.proofs.lemmas.List.Elements.{All-get_or, All-drop}
use Rattle.byteorder.specs.Numbers.{big_from-lt}
use Rattle.frame_facts.specs.declared.facts.Facts.{Facts}
use Rattle.frame_facts.specs.declared.facts.Transport.{Transport}
use Rattle.frame_facts.specs.declared.link.Link.{Link}
use Rattle.frame_facts.specs.declared.link.Link.TheVariants as links
use Rattle.frame_facts.specs.Wire.{number_at}
use Rattle.frame_facts.specs.Transports.{has_ports, whole, later, is_extension, is_later_fragment, extension_size, later_fragment, after_headers}
use Rattle.frame_facts.specs.Ip.{is_ipv4, is_ipv6, ipv4_header, fragment_offset, ipv4_facts, ipv6_facts, ipv4, ipv6, has_version}
use Rattle.frame_facts.specs.Links.{by_type, is_tag, one_tag, two_tags, ether_addresses, has_ether_type, facts}
use Rattle.frame_facts.specs.Values.{proto_of, ports_in, HaveBits, HaveFieldBits}

abbrev pub IsByte : ℕ → Type 0
IsByte b = b < 256

byte_at : (xs : List ℕ) → All IsByte xs → (k : ℕ) → slice_index xs k < 256
byte_at xs all k = go (cases_lt k (length xs)) where
  go : (k < length xs) ⊎ (length xs ≤ k) → slice_index xs k < 256
  go (inl h) = All-get_or IsByte xs k 0 h all
  go (inr h) = omega (arith, get_or_past xs k 0 h)

number_fits : (xs : List ℕ) → All IsByte xs → (place n : ℕ) → number_at xs place n < 256 ^ n
unfolding number_at
number_fits xs all place n = big_from-lt 0 n (drop place xs) (byte_at (drop place xs) (All-drop IsByte place xs all))

no_bits : (n : ℕ) → 0 < 2 ^ n → HaveBits n None
no_bits n h = record { first = h; second = h }

-- the protocol and the ports of what is carried
record Carried (transport : Option Transport) : Type 0 where
  proto : proto_of transport < 2 ^ 8
  ports : HaveBits 16 (ports_in transport)

nothing_carried : Carried None
nothing_carried = record { proto = omega arith; ports = no_bits 16 (omega arith) }

later_carried : (protocol : ℕ) → IsByte protocol → Carried (Some (later protocol))
later_carried protocol h = record { proto = h; ports = no_bits 16 (omega arith) }

either_carried : (b : Bool) (x y : Option Transport) → Carried x → Carried y → Carried (if b then x else y)
either_carried true x y h k = h
either_carried false x y h k = k

ports_fit : (b : Bool) (header : List ℕ) → All IsByte header → HaveBits 16 (if b then Some (number_at header 0 2, number_at header 2 2) else None)
ports_fit true header all = record { first = number_fits header all 0 2; second = number_fits header all 2 2 }
ports_fit false header all = no_bits 16 (omega arith)

whole_carried : (protocol : ℕ) (header : List ℕ) → IsByte protocol → All IsByte header → Carried (Some (whole protocol header))
whole_carried protocol header h all = record { proto = h; ports = ports_fit (has_ports protocol && nat_le 4 (length header)) header all }

after_carried : (turns next : ℕ) (bytes : List ℕ) → IsByte next → All IsByte bytes → Carried (after_headers turns next bytes)
after_carried zero next bytes h all = nothing_carried
after_carried (suc turns) next bytes h all =
    let first = slice_index bytes 0 in
    let size = extension_size next bytes in
    let others = after_headers turns first (drop size bytes) in
    let gone = either_carried (is_extension first) None (Some (later first)) nothing_carried (later_carried first (byte_at bytes all 0)) in
    let rest = after_carried turns first (drop size bytes) (byte_at bytes all 0) (All-drop IsByte size bytes all) in
    either_carried (not (is_extension next)) (Some (whole next bytes)) _ (whole_carried next bytes h all)
    (either_carried (nat_lt (length bytes) 8) None _ nothing_carried
    (either_carried (is_later_fragment next bytes) (later_fragment first) others gone rest))

abbrev Fit : Option Facts → Type 0
Fit o = IfSome o HaveFieldBits

either_fit : (b : Bool) (x y : Option Facts) → Fit x → Fit y → Fit (if b then x else y)
either_fit true x y h k = h
either_fit false x y h k = k

whole_or_later : (b : Bool) (protocol : ℕ) (header : List ℕ) → IsByte protocol → All IsByte header → Carried (Some (if b then whole protocol header else later protocol))
whole_or_later true protocol header h all = whole_carried protocol header h all
whole_or_later false protocol header h all = later_carried protocol h

module _ (ether : Option (ℕ × ℕ)) (k : HaveBits 48 ether) where
  ipv4_fit : (packet : List ℕ) → All IsByte packet → Fit (ipv4 ether packet)
  ipv4_fit packet all =
      let carried = whole_or_later (fragment_offset packet == 0) (slice_index packet 9) (drop (ipv4_header packet) packet) (byte_at packet all 9) (All-drop IsByte (ipv4_header packet) packet all) in
      either_fit (is_ipv4 packet) (Some (ipv4_facts ether packet)) None
      (record { ether = k; source = number_fits packet all 12 4; dest = number_fits packet all 16 4; proto = carried.proto; ports = carried.ports }) tt

  ipv6_fit : (packet : List ℕ) → All IsByte packet → Fit (ipv6 ether packet)
  ipv6_fit packet all =
      let carried = after_carried (suc (length (drop 40 packet))) (slice_index packet 6) (drop 40 packet) (byte_at packet all 6) (All-drop IsByte 40 packet all) in
      either_fit (is_ipv6 packet) (Some (ipv6_facts ether packet)) None
      (record { ether = k; source = number_fits packet all 8 16; dest = number_fits packet all 24 16; proto = carried.proto; ports = carried.ports }) tt

  type_fit : (ether_type : ℕ) (packet : List ℕ) → All IsByte packet → Fit (by_type ether ether_type packet)
  type_fit ether_type packet all =
      let six = either_fit (ether_type == 0x86dd) (ipv6 ether packet) None (ipv6_fit packet all) tt in
      either_fit (ether_type == 0x0800) (ipv4 ether packet) (if ether_type == 0x86dd then ipv6 ether packet else None) (ipv4_fit packet all) six

  tag_fit : (tag room : Bool) (x y : Option Facts) → Fit x → Fit y → Fit (if tag then (if room then x else None) else y)
  tag_fit tag room x y h k = either_fit tag (if room then x else None) y (either_fit room x None h tt) k

  one_tag_fit : (ether_type : ℕ) (bytes : List ℕ) → All IsByte bytes → Fit (one_tag ether ether_type bytes)
  unfolding one_tag
  one_tag_fit ether_type bytes all =
      tag_fit (is_tag ether_type) (nat_le 4 (length bytes)) (by_type ether (number_at bytes 2 2) (drop 4 bytes)) (by_type ether ether_type bytes)
      (type_fit (number_at bytes 2 2) (drop 4 bytes) (All-drop IsByte 4 bytes all)) (type_fit ether_type bytes all)

  tags_fit : (ether_type : ℕ) (bytes : List ℕ) → All IsByte bytes → Fit (two_tags ether ether_type bytes)
  unfolding two_tags
  tags_fit ether_type bytes all =
      tag_fit (is_tag ether_type) (nat_le 4 (length bytes)) (one_tag ether (number_at bytes 2 2) (drop 4 bytes)) (by_type ether ether_type bytes)
      (one_tag_fit (number_at bytes 2 2) (drop 4 bytes) (All-drop IsByte 4 bytes all)) (type_fit ether_type bytes all)

stations : (frame : List ℕ) → All IsByte frame → HaveBits 48 (Some (ether_addresses frame))
stations frame all = record { first = number_fits frame all 6 6; second = number_fits frame all 0 6 }

no_stations : HaveBits 48 None
no_stations = no_bits 48 (omega arith)

cooked_fit : (b : Bool) (type size : ℕ) (frame : List ℕ) → All IsByte frame → Fit (if b then two_tags None (number_at frame type 2) (drop size frame) else None)
cooked_fit true type size frame all = tags_fit None no_stations (number_at frame type 2) (drop size frame) (All-drop IsByte size frame all)
cooked_fit false type size frame all = tt

pub facts_fit : (link : Link) (frame : List ℕ) → All IsByte frame → IfSome (facts link frame) HaveFieldBits
facts_fit links.Ethernet frame all =
    let ether : Option (ℕ × ℕ) = Some (ether_addresses frame) in
    either_fit (nat_le 14 (length frame)) (two_tags ether (number_at frame 12 2) (drop 14 frame)) None
    (tags_fit ether (stations frame all) (number_at frame 12 2) (drop 14 frame) (All-drop IsByte 14 frame all)) tt
facts_fit links.RawIp frame all = either_fit (has_version 6 frame) (ipv6 None frame) (ipv4 None frame) (ipv6_fit None no_stations frame all) (ipv4_fit None no_stations frame all)
facts_fit links.RawIpv4 frame all = ipv4_fit None no_stations frame all
facts_fit links.RawIpv6 frame all = ipv6_fit None no_stations frame all
facts_fit links.Cooked frame all = cooked_fit (nat_le 16 (length frame) && has_ether_type (number_at frame 2 2)) 14 16 frame all
facts_fit links.CookedTwo frame all = cooked_fit (nat_le 20 (length frame) && has_ether_type (number_at frame 8 2)) 0 20 frame all
