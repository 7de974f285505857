-- A file of pcapng, block by block (draft-ietf-opsawg-pcapng).
use Rattle.std.specs.Prelude.{◌≡◌, ℕ, zero, suc, ◌+◌, ◌-◌, ◌*◌, ◌^◌, Bool, ◌&&◌, ◌||◌, ◌==◌, nat_lt, if◌then◌else◌, List, [], ◌∷◌, ◌++◌, length, take, drop, slice_get, Option, Some, None, Result, Ok, Err}
use Rattle.frame_facts.specs.declared.facts.Facts.{Facts}
use Rattle.frame_facts.specs.Links.{facts}
use Rattle.pcap_keys.specs.declared.facts.Frame.{Frame}
use Rattle.pcap_keys.specs.declared.format.Order.{Order}
use Rattle.pcap_keys.specs.declared.format.Order.TheVariants as orders
use Rattle.pcap_keys.specs.declared.block.Kind.{Kind}
use Rattle.pcap_keys.specs.declared.block.Kind.TheVariants as kinds
use Rattle.pcap_keys.specs.declared.block.Header.{Header}
use Rattle.pcap_keys.specs.declared.interface.Interface.{Interface}
use Rattle.pcap_keys.specs.declared.reading.Reading.{Reading}
use Rattle.pcap_keys.specs.declared.error.CaptureError.{CaptureError}
use Rattle.pcap_keys.specs.declared.error.CaptureError.TheVariants.{Bad, Memory}
use Rattle.pcap_keys.specs.declared.error.CaptureReason.TheVariants as reasons
use Rattle.pcap_keys.specs.Savefile.{number}
use Rattle.pcap_keys.specs.Clocks.{time}
use Rattle.pcap_keys.specs.Blocks.{header, interface}

-- Before the first block no interface is declared and no packet read. A section header begins the file, and brings its order.
abbrev pub nothing_read : Reading
nothing_read = record { order = orders.Little; interfaces = []; start = None; moment = 0; frames = [] }

-- a packet at this moment
abbrev pub with_frame : Reading → ℕ → Option Facts → Reading
with_frame r moment found =
    record { order = r.order; interfaces = r.interfaces; start = r.start; moment = moment; frames = r.frames ++ record { moment = moment; facts = found } ∷ [] }

-- the time of the first packet that has one
abbrev pub start_or : Option ℕ → ℕ → ℕ
start_or None t = t
start_or (Some start) t = start

-- A packet's moment is its time less the first packet's time, or 0 before it, and at most 2^64 - 1.
abbrev pub moment_of : Option ℕ → ℕ → ℕ
moment_of start t = let after = t - start_or start t in if nat_lt after (2 ^ 64) then after else 2 ^ 64 - 1

abbrev pub started : Reading → ℕ → Reading
started r t = record { order = r.order; interfaces = r.interfaces; start = Some (start_or r.start t); moment = r.moment; frames = r.frames }

-- a packet at this time
abbrev pub with_timed : Reading → ℕ → Option Facts → Reading
with_timed r t found = with_frame (started r t) (moment_of r.start t) found

-- The version is at 12 and 14. Version 1.2 is the same as 1.0.
abbrev pub is_version : Order → List ℕ → Bool
is_version order block = (number order 2 (drop 12 block) == 1) && ((number order 2 (drop 14 block) == 0) || (number order 2 (drop 14 block) == 2))

-- A section has the order of its header and no interfaces yet.
unfoldable pub section : Order → ℕ → List ℕ → Reading → Result Reading CaptureError
section order byte block r =
    if is_version order block then Ok (record { order = order; interfaces = []; start = r.start; moment = r.moment; frames = r.frames })
    else Err (Bad (byte + 12) reasons.Version)

abbrev pub with_interface : Reading → Result Interface CaptureError → Result Reading CaptureError
with_interface r (Ok i) = Ok (record { order = r.order; interfaces = r.interfaces ++ i ∷ []; start = r.start; moment = r.moment; frames = r.frames })
with_interface r (Err e) = Err e

unfoldable pub described : Order → ℕ → List ℕ → Reading → Result Reading CaptureError
described order byte block r = with_interface r (interface order byte block)

-- The time of an enhanced packet block is at 12, the high half first.
abbrev pub stamp_of : Order → List ℕ → ℕ
stamp_of order block = number order 4 (drop 12 block) * 2 ^ 32 + number order 4 (drop 16 block)

-- Interfaces are numbered within their section. The number of kept bytes is at 20, and they
-- begin at 28.
abbrev pub enhanced_of : Order → ℕ → List ℕ → Reading → Option Interface → Result Reading CaptureError
enhanced_of order byte block r None = Err (Bad (byte + 8) reasons.Interface)
enhanced_of order byte block r (Some i) =
    let kept = number order 4 (drop 20 block) in
    if nat_lt (length block - 32) kept then Err (Bad (byte + 20) reasons.Length)
    else Ok (with_timed r (time i.clock (stamp_of order block)) (facts i.link (take kept (drop 28 block))))

-- An enhanced packet block has the number of its interface at 8.
unfoldable pub enhanced : Order → ℕ → List ℕ → Reading → Result Reading CaptureError
enhanced order byte block r = enhanced_of order byte block r (slice_get r.interfaces (number order 4 (drop 8 block)))

-- the kept bytes of a packet of so many, under a snapshot length; 0 is no limit
abbrev pub kept_of : ℕ → ℕ → ℕ
kept_of most size = if (most == 0) || nat_lt size most then size else most

abbrev pub simple_of : Order → ℕ → List ℕ → Reading → Option Interface → Result Reading CaptureError
simple_of order byte block r None = Err (Bad byte reasons.Interface)
simple_of order byte block r (Some i) =
    let kept = kept_of i.most (number order 4 (drop 8 block)) in
    if nat_lt (length block - 16) kept then Err (Bad (byte + 8) reasons.Length)
    else Ok (with_frame r r.moment (facts i.link (take kept (drop 12 block))))

-- A simple packet block has the packet's length at 8, and its kept bytes from 12 on. It is of the first interface of its section.
-- It has no time, so it has the moment of the packet before it.
unfoldable pub simple : Order → ℕ → List ℕ → Reading → Result Reading CaptureError
simple order byte block r = simple_of order byte block r (slice_get r.interfaces 0)

-- what is read after a block of a kind, or the block's fault; other blocks are skipped
abbrev pub of_kind : Kind → Order → ℕ → List ℕ → Reading → Result Reading CaptureError
of_kind kinds.Section order byte block r = section order byte block r
of_kind kinds.Interface order byte block r = described order byte block r
of_kind kinds.Simple order byte block r = simple order byte block r
of_kind kinds.Enhanced order byte block r = enhanced order byte block r
of_kind kinds.Other order byte block r = Ok r

abbrev pub with_size : ℕ → Result Reading CaptureError → Result (Reading × ℕ) CaptureError
with_size size (Ok r) = Ok (r, size)
with_size size (Err e) = Err e

abbrev pub headed : ℕ → List ℕ → Reading → Result Header CaptureError → Result (Reading × ℕ) CaptureError
headed byte bytes r (Err e) = Err e
headed byte bytes r (Ok h) = with_size h.size (of_kind h.kind h.order byte (take h.size bytes) r)

-- What is read after the block at the start of these bytes, with the block's length; or the block's fault.
unfoldable pub block : ℕ → List ℕ → Reading → Result (Reading × ℕ) CaptureError
block byte bytes r = headed byte bytes r (header r.order byte bytes)

abbrev pub and_then : Result (Reading × ℕ) CaptureError → (Reading × ℕ → Result (List Frame) CaptureError) → Result (List Frame) CaptureError
and_then (Ok read) next = next read
and_then (Err e) next = Err e

-- The packets of all blocks from a place of the file up to its end. `turns` is at least the number of bytes from there on.
abbrev pub blocks : List ℕ → ℕ → ℕ → Reading → Result (List Frame) CaptureError
blocks text zero place r = Ok r.frames
blocks text (suc turns) place r =
    if nat_lt place (length text) then and_then (block place (drop place text) r) (λ read. blocks text turns (place + read.1) read.0)
    else Ok r.frames

-- the frames of a file of pcapng, or its first fault
abbrev pub sections : List ℕ → Result (List Frame) CaptureError
sections text = blocks text (length text) 0 nothing_read

-- What was read is this now, or this was its fault, unless memory ran out.
abbrev pub Becomes : Result (Unit {0}) CaptureError → Reading → Result Reading CaptureError → Type 0
Becomes (Ok _) r o = Ok r ≡ o
Becomes (Err (Bad byte reason)) r o = Err (Bad byte reason) ≡ o
Becomes (Err Memory) r o = Unit {0}

-- the same, with the length of the block
abbrev pub BecomesBy : Result ℕ CaptureError → Reading → Result (Reading × ℕ) CaptureError → Type 0
BecomesBy (Ok size) r o = Ok (r, size) ≡ o
BecomesBy (Err (Bad byte reason)) r o = Err (Bad byte reason) ≡ o
BecomesBy (Err Memory) r o = Unit {0}
