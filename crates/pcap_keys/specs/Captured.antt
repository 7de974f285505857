-- What a file means as a capture: its frames, or its first fault.
use Rattle.std.specs.Prelude.{◌≡◌, ℕ, zero, suc, ◌+◌, ◌-◌, ◌%◌, ◌^◌, Bool, true, false, not, ◌==◌, nat_lt, nat_le, if◌then◌else◌, List, [], ◌∷◌, ◌++◌, length, drop, Option, Some, None, Result, Ok, Err}
use Rattle.pcap_keys.specs.declared.facts.Frame.{Frame}
use Rattle.pcap_keys.specs.declared.format.Format.{Format}
use Rattle.frame_facts.specs.declared.link.Link.{Link}
use Rattle.pcap_keys.specs.declared.error.CaptureError.{CaptureError}
use Rattle.pcap_keys.specs.declared.error.CaptureError.TheVariants.{Bad, Memory}
use Rattle.pcap_keys.specs.declared.error.CaptureReason.{CaptureReason}
use Rattle.pcap_keys.specs.declared.error.CaptureReason.TheVariants as reasons
use Rattle.frame_facts.specs.Links.{link_of, facts}
use Rattle.pcap_keys.specs.declared.format.Order.TheVariants as orders
use Rattle.pcap_keys.specs.Blocks.{section_type}
use Rattle.pcap_keys.specs.Sections.{sections}
use Rattle.pcap_keys.specs.Savefile.{number, format_of, is_version, record_time, kept, is_whole, frame_bytes}

abbrev pub fault : ℕ → CaptureReason → Result (List Frame) CaptureError
fault byte reason = Err (Bad byte reason)

-- The frame of the record at the start of these bytes. Its moment counts from the first record's time, and is 0 before it.
abbrev pub frame_of : Format → Link → ℕ → List ℕ → Frame
frame_of format link start bytes = record { moment = record_time format bytes - start; facts = facts link (frame_bytes format bytes) }

-- the time of the first record, which follows the file's header of 24 bytes
abbrev pub start_of : Format → List ℕ → ℕ
start_of format text = if nat_le 40 (length text) then record_time format (drop 24 text) else 0

-- these frames, and then what follows
abbrev pub behind : List Frame → Result (List Frame) CaptureError → Result (List Frame) CaptureError
behind frames (Ok others) = Ok (frames ++ others)
behind frames (Err e) = Err e

-- what follows, if bytes are left; else the records end here
abbrev pub where_left : Bool → Result (List Frame) CaptureError → Result (List Frame) CaptureError
where_left true others = others
where_left false others = Ok []

-- what follows, if the record at this place is whole; else a fault at its first byte
abbrev pub where_whole : Bool → ℕ → Result (List Frame) CaptureError → Result (List Frame) CaptureError
where_whole true place others = others
where_whole false place others = fault place reasons.Cut

-- The records from a place of the file up to its end. `turns` is at least the number of bytes.
abbrev pub records : Format → Link → ℕ → List ℕ → ℕ → ℕ → Result (List Frame) CaptureError
records format link start text zero place = Ok []
records format link start text (suc turns) place =
    let bytes = drop place text in
    where_left (nat_lt place (length text))
    (where_whole (is_whole format bytes) place
    (behind (frame_of format link start bytes ∷ []) (records format link start text turns (place + (16 + kept format bytes)))))

-- The records follow the file's header.
abbrev pub all_records : Format → List ℕ → Link → Result (List Frame) CaptureError
all_records format text link = records format link (start_of format text) text (length text) 24

abbrev pub of_link : Format → List ℕ → Option Link → Result (List Frame) CaptureError
of_link format text None = fault 20 reasons.LinkType
of_link format text (Some link) = all_records format text link

abbrev pub of_format : List ℕ → Option Format → Result (List Frame) CaptureError
of_format text None = fault 0 reasons.Magic
of_format text (Some format) =
    if nat_lt (length text) 24 then fault 0 reasons.Cut
    else if not (is_version format text) then fault 4 reasons.Version
    else of_link format text (link_of (number format.order 4 (drop 20 text) % 2 ^ 16))

-- the frames of a capture, or the first of these faults that applies; a file of pcapng begins with a section header
unfoldable pub captured : List ℕ → Result (List Frame) CaptureError
captured text =
    if nat_lt (length text) 4 then fault 0 reasons.Magic
    else if number orders.Big 4 text == section_type then sections text
    else of_format text (format_of text)

-- the answer is this, unless memory ran out
abbrev pub IsUnlessMemory : Result (List Frame) CaptureError → Result (List Frame) CaptureError → Type 0
IsUnlessMemory (Ok frames) o = Ok frames ≡ o
IsUnlessMemory (Err (Bad byte reason)) o = Err (Bad byte reason) ≡ o
IsUnlessMemory (Err Memory) o = Unit {0}
