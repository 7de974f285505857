-- What an IP packet carries: its protocol and its ports. RFC 9293 (TCP), 768 (UDP), 4340 (DCCP), 9260
-- (SCTP), 3828 (UDP-Lite), 8200 (the extension headers of IPv6) and 4302 (the authentication header).
use Rattle.std.specs.Prelude.{ℕ, zero, suc, ◌+◌, ◌*◌, ◌/◌, Bool, not, ◌&&◌, ◌||◌, ◌==◌, nat_lt, nat_le, if◌then◌else◌, List, length, drop, slice_index, Option, Some, None}
use Rattle.frame_facts.specs.Wire.{number_at}
use Rattle.frame_facts.specs.declared.facts.Transport.{Transport}

-- TCP is 6, UDP 17, DCCP 33, SCTP 132 and UDP-Lite 136. The header of each begins with the source port
-- and the destination port, two bytes each.
abbrev pub has_ports : ℕ → Bool
has_ports protocol = (protocol == 6) || (protocol == 17) || (protocol == 33) || (protocol == 132) || (protocol == 136)

-- the source and the destination port, if the protocol has ports and their four bytes were kept
abbrev pub ports_of : ℕ → List ℕ → Option (ℕ × ℕ)
ports_of protocol header = if has_ports protocol && nat_le 4 (length header) then Some (number_at header 0 2, number_at header 2 2) else None

-- a protocol whose header begins these bytes
abbrev pub whole : ℕ → List ℕ → Transport
whole protocol header = record { proto = protocol; ports = ports_of protocol header }

-- Only the first fragment of a packet has the ports.
abbrev pub later : ℕ → Transport
later protocol = record { proto = protocol; ports = None }

-- RFC 8200: hop-by-hop options are 0, a routing header 43, a fragment header 44, an authentication header 51, and destination
-- options 60.
abbrev pub is_extension : ℕ → Bool
is_extension next = (next == 0) || (next == 43) || (next == 44) || (next == 51) || (next == 60)

-- A fragment header has 8 bytes. Byte 1 of the others is their length: of an authentication header in units of 4 bytes,
-- less 2; of the rest in units of 8 bytes, less 1.
abbrev pub extension_size : ℕ → List ℕ → ℕ
extension_size next header =
    if next == 44 then 8
    else if next == 51 then 4 * (slice_index header 1 + 2)
    else 8 * (slice_index header 1 + 1)

-- RFC 8200, section 4.5: the high 13 bits of bytes 2 and 3 of a fragment header say where in its packet the fragment begins.
abbrev pub is_later_fragment : ℕ → List ℕ → Bool
is_later_fragment next header = (next == 44) && not (number_at header 2 2 / 8 == 0)

-- A later fragment has its protocol in its fragment header, unless another extension header was cut off with the first fragment.
abbrev pub later_fragment : ℕ → Option Transport
later_fragment next = if is_extension next then None else Some (later next)

-- What follows extension headers. Byte 0 of each says what is next. There is none if one of them has fewer than 8 kept bytes.
-- `turns` is more than the number of bytes.
abbrev pub after_headers : ℕ → ℕ → List ℕ → Option Transport
after_headers zero next bytes = None
after_headers (suc turns) next bytes =
    if not (is_extension next) then Some (whole next bytes)
    else if nat_lt (length bytes) 8 then None
    else if is_later_fragment next bytes then later_fragment (slice_index bytes 0)
    else after_headers turns (slice_index bytes 0) (drop (extension_size next bytes) bytes)
