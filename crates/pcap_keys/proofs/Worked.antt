-- Worked examples of the definitions. They compute: a wrong number here is refused.
use Rattle.std.specs.Prelude.{◌≡◌, refl, ℕ, List, [], ◌∷◌, ◌++◌, take, false, Some, None, Result, Ok, Err}
use Rattle.frame_facts.specs.declared.facts.Facts.{Facts}
use Rattle.pcap_keys.specs.declared.facts.Frame.{Frame}
use Rattle.pcap_keys.specs.declared.error.CaptureError.{CaptureError}
use Rattle.pcap_keys.specs.declared.error.CaptureError.TheVariants.{Bad}
use Rattle.pcap_keys.specs.declared.error.CaptureReason.{CaptureReason}
use Rattle.pcap_keys.specs.declared.error.CaptureReason.TheVariants as reasons
use Rattle.pcap_keys.specs.declared.selector.Selector.TheVariants.{IpSource, DestPort, EtherSource}
use Rattle.pcap_keys.specs.declared.selector.PlanLine.{PlanLine}
use Rattle.frame_facts.specs.Wire.{number_at}
use Rattle.pcap_keys.specs.Savefile.{number, is_whole}
use Rattle.pcap_keys.specs.Clocks.{with_option}
use Rattle.pcap_keys.specs.Blocks.{header, interface}
use Rattle.pcap_keys.specs.Sections.{section, described, enhanced, simple, block}
use Rattle.pcap_keys.specs.Captured.{captured}
use Rattle.pcap_keys.specs.Planned.{packets}
use Rattle.set_model.specs.declared.packet.Packet.{Packet}

-- a capture of raw IP, in microseconds, the least significant byte first: one record of UDP from 192.168.1.5 port 1234 to 10.0.0.5 port 2048
abbrev capture : List ℕ
capture =
    0xd4 ∷ 0xc3 ∷ 0xb2 ∷ 0xa1 ∷ 2 ∷ 0 ∷ 4 ∷ 0 ∷ 0 ∷ 0 ∷ 0 ∷ 0 ∷ 0 ∷ 0 ∷ 0 ∷ 0 ∷ 0 ∷ 0 ∷ 4 ∷ 0 ∷ 0x65 ∷ 0 ∷ 0 ∷ 0
    ∷ 1 ∷ 0 ∷ 0 ∷ 0 ∷ 0x20 ∷ 0xa1 ∷ 7 ∷ 0 ∷ 0x1c ∷ 0 ∷ 0 ∷ 0 ∷ 0x1c ∷ 0 ∷ 0 ∷ 0
    ∷ 0x45 ∷ 0 ∷ 0 ∷ 0x1c ∷ 0 ∷ 0 ∷ 0 ∷ 0 ∷ 0x40 ∷ 0x11 ∷ 0 ∷ 0 ∷ 0xc0 ∷ 0xa8 ∷ 1 ∷ 5 ∷ 0x0a ∷ 0 ∷ 0 ∷ 5
    ∷ 0x04 ∷ 0xd2 ∷ 0x08 ∷ 0 ∷ 0 ∷ 8 ∷ 0 ∷ 0 ∷ []

abbrev udp : Facts
udp = record { ether = None; six = false; source = 3232235781; dest = 167772165; transport = Some (record { proto = 17; ports = Some (1234, 2048) }) }

abbrev frame : Frame
frame = record { moment = 0; facts = Some udp }

abbrev frames : List Frame → Result (List Frame) CaptureError
frames fs = Ok fs

abbrev cut_at : ℕ → Result (List Frame) CaptureError
cut_at byte = Err (Bad byte reasons.Cut)

pub one_record : captured capture ≡ frames (frame ∷ [])
unfolding captured number is_whole number_at
one_record = refl

pub cut_record : captured (take 67 capture) ≡ cut_at 24
unfolding captured number is_whole number_at
cut_record = refl

pub no_record : captured (take 24 capture) ≡ frames []
unfolding captured number is_whole number_at
no_record = refl

-- a section of pcapng, the most significant byte first, and an interface of raw IP whose times are milliseconds
abbrev section_header : List ℕ
section_header =
    0x0a ∷ 0x0d ∷ 0x0d ∷ 0x0a ∷ 0 ∷ 0 ∷ 0 ∷ 0x1c ∷ 0x1a ∷ 0x2b ∷ 0x3c ∷ 0x4d ∷ 0 ∷ 1 ∷ 0 ∷ 0
    ∷ 255 ∷ 255 ∷ 255 ∷ 255 ∷ 255 ∷ 255 ∷ 255 ∷ 255 ∷ 0 ∷ 0 ∷ 0 ∷ 0x1c ∷ []

abbrev interface_block : List ℕ
interface_block =
    0 ∷ 0 ∷ 0 ∷ 1 ∷ 0 ∷ 0 ∷ 0 ∷ 0x1c ∷ 0 ∷ 0x65 ∷ 0 ∷ 0 ∷ 0 ∷ 0 ∷ 0 ∷ 24 ∷ 0 ∷ 9 ∷ 0 ∷ 1 ∷ 3 ∷ 0 ∷ 0 ∷ 0 ∷ 0 ∷ 0 ∷ 0 ∷ 0x1c ∷ []

-- a packet of this many milliseconds: the addresses and the ports of the record above
abbrev enhanced_block : ℕ → List ℕ
enhanced_block stamp =
    0 ∷ 0 ∷ 0 ∷ 6 ∷ 0 ∷ 0 ∷ 0 ∷ 56 ∷ 0 ∷ 0 ∷ 0 ∷ 0 ∷ 0 ∷ 0 ∷ 0 ∷ 0 ∷ 0 ∷ 0 ∷ 0 ∷ stamp ∷ 0 ∷ 0 ∷ 0 ∷ 24 ∷ 0 ∷ 0 ∷ 0 ∷ 28
    ∷ 0x45 ∷ 0 ∷ 0 ∷ 0x1c ∷ 0 ∷ 0 ∷ 0 ∷ 0 ∷ 0x40 ∷ 0x11 ∷ 0 ∷ 0 ∷ 0xc0 ∷ 0xa8 ∷ 1 ∷ 5 ∷ 0x0a ∷ 0 ∷ 0 ∷ 5 ∷ 0x04 ∷ 0xd2 ∷ 0x08 ∷ 0
    ∷ 0 ∷ 0 ∷ 0 ∷ 56 ∷ []

-- a simple packet of 28 bytes, of which the interface keeps 24
abbrev simple_block : List ℕ
simple_block =
    0 ∷ 0 ∷ 0 ∷ 3 ∷ 0 ∷ 0 ∷ 0 ∷ 40 ∷ 0 ∷ 0 ∷ 0 ∷ 28
    ∷ 0x45 ∷ 0 ∷ 0 ∷ 0x1c ∷ 0 ∷ 0 ∷ 0 ∷ 0 ∷ 0x40 ∷ 0x11 ∷ 0 ∷ 0 ∷ 0xc0 ∷ 0xa8 ∷ 1 ∷ 5 ∷ 0x0a ∷ 0 ∷ 0 ∷ 5 ∷ 0x04 ∷ 0xd2 ∷ 0x08 ∷ 0
    ∷ 0 ∷ 0 ∷ 0 ∷ 40 ∷ []

abbrev later_frame : Frame
later_frame = record { moment = 50; facts = Some udp }

abbrev refused_at : ℕ → CaptureReason → Result (List Frame) CaptureError
refused_at byte reason = Err (Bad byte reason)

-- The second packet is 50 ms after the first. The simple packet has no time, and so its moment is the same.
pub three_blocks : captured (section_header ++ interface_block ++ enhanced_block 100 ++ enhanced_block 150 ++ simple_block) ≡ frames (frame ∷ later_frame ∷ later_frame ∷ [])
unfolding captured number number_at with_option header interface section described enhanced simple block
three_blocks = refl

-- The second section has no interfaces.
pub undeclared : captured (section_header ++ interface_block ++ section_header ++ simple_block) ≡ refused_at 84 reasons.Interface
unfolding captured number number_at with_option header interface section described enhanced simple block
undeclared = refl

pub cut_block : captured (section_header ++ take 27 interface_block) ≡ cut_at 28
unfolding captured number number_at with_option header interface section described enhanced simple block
cut_block = refl

-- a line of a plan that selects the source address and the destination port, and one whose selector isn't in raw IP
abbrev plan : List PlanLine
plan = record { set = 0; selectors = IpSource ∷ DestPort ∷ [] } ∷ record { set = 1; selectors = EtherSource ∷ [] } ∷ []

abbrev packet : Packet
packet = record { set = 0; key = 3232235781 ∷ 2048 ∷ []; now = 0 }

pub one_packet : packets plan (frame ∷ []) ≡ packet ∷ []
one_packet = refl
