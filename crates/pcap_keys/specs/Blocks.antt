-- The blocks of pcapng: their headers, and what interfaces say (draft-ietf-opsawg-pcapng, "General Block Structure").
use Rattle.std.specs.Prelude.{ℕ, ◌+◌, ◌-◌, ◌%◌, Bool, not, ◌&&◌, ◌==◌, nat_lt, nat_le, if◌then◌else◌, List, length, take, drop, Option, Some, None, Result, Ok, Err}
use Rattle.frame_facts.specs.declared.link.Link.{Link}
use Rattle.frame_facts.specs.Links.{link_of}
use Rattle.pcap_keys.specs.declared.format.Order.{Order}
use Rattle.pcap_keys.specs.declared.format.Order.TheVariants as orders
use Rattle.pcap_keys.specs.declared.clock.Clock.{Clock}
use Rattle.pcap_keys.specs.declared.block.Kind.{Kind}
use Rattle.pcap_keys.specs.declared.block.Kind.TheVariants as kinds
use Rattle.pcap_keys.specs.declared.block.Header.{Header}
use Rattle.pcap_keys.specs.declared.interface.Interface.{Interface}
use Rattle.pcap_keys.specs.declared.error.CaptureError.{CaptureError}
use Rattle.pcap_keys.specs.declared.error.CaptureError.TheVariants.{Bad}
use Rattle.pcap_keys.specs.declared.error.CaptureReason.TheVariants as reasons
use Rattle.pcap_keys.specs.Savefile.{number}
use Rattle.pcap_keys.specs.Clocks.{usual, options}

-- the type of a section header, which reads the same in both orders of bytes
abbrev pub section_type : ℕ
section_type = 0x0a0d0d0a

abbrev pub kind_of : ℕ → Kind
kind_of block_type =
    if block_type == section_type then kinds.Section
    else if block_type == 1 then kinds.Interface
    else if block_type == 3 then kinds.Simple
    else if block_type == 6 then kinds.Enhanced
    else kinds.Other

-- how many bytes a block has at least: those of its fields, of its type, and of both copies of its length
abbrev pub least_size : Kind → ℕ
least_size kinds.Section = 28
least_size kinds.Interface = 20
least_size kinds.Simple = 16
least_size kinds.Enhanced = 32
least_size kinds.Other = 12

-- The magic of a section header, at 8, is the number 0x1a2b3c4d in the order of the section's numbers.
abbrev pub magic_order : List ℕ → Option Order
magic_order bytes =
    if number orders.Big 4 (drop 8 bytes) == 0x1a2b3c4d then Some orders.Big
    else if number orders.Little 4 (drop 8 bytes) == 0x1a2b3c4d then Some orders.Little
    else None

-- A section header has the order of its magic. Another block has the order of its section.
abbrev pub order_of : Order → Kind → List ℕ → Option Order
order_of order kinds.Section bytes = magic_order bytes
order_of order kinds.Interface bytes = Some order
order_of order kinds.Simple bytes = Some order
order_of order kinds.Enhanced bytes = Some order
order_of order kinds.Other bytes = Some order

-- the length of a block, which follows its type
abbrev pub size_of : Order → List ℕ → ℕ
size_of order bytes = number order 4 (drop 4 bytes)

-- A length is a multiple of four, and counts the whole block.
abbrev pub is_size : Kind → ℕ → Bool
is_size kind size = (size % 4 == 0) && nat_le (least_size kind) size

-- the length once more, at the end of the block
abbrev pub has_copy : Order → List ℕ → Bool
has_copy order bytes = number order 4 (drop (size_of order bytes - 4) bytes) == size_of order bytes

abbrev pub sized : ℕ → List ℕ → Kind → Order → Result Header CaptureError
sized byte bytes kind order =
    if not (is_size kind (size_of order bytes)) then Err (Bad (byte + 4) reasons.Length)
    else if nat_lt (length bytes) (size_of order bytes) then Err (Bad byte reasons.Cut)
    else if not (has_copy order bytes) then Err (Bad (byte + 4) reasons.Length)
    else Ok (record { kind = kind; order = order; size = size_of order bytes })

abbrev pub ordered : ℕ → List ℕ → Kind → Option Order → Result Header CaptureError
ordered byte bytes kind None = Err (Bad (byte + 8) reasons.Magic)
ordered byte bytes kind (Some order) = sized byte bytes kind order

-- The header of the block at the start of these bytes, which begin at this byte of the file, in a section of this order; or its
-- fault. The type is its first four bytes.
unfoldable pub header : Order → ℕ → List ℕ → Result Header CaptureError
header order byte bytes =
    if nat_lt (length bytes) 12 then Err (Bad byte reasons.Cut)
    else let kind = kind_of (number order 4 bytes) in ordered byte bytes kind (order_of order kind bytes)

abbrev pub with_clock : ℕ → Link → ℕ → Option Clock → Result Interface CaptureError
with_clock byte link most None = Err (Bad byte reasons.Options)
with_clock byte link most (Some clock) = Ok (record { link = link; most = most; clock = clock })

-- the options of an interface description, between its snapshot length and the copy of its length
abbrev pub option_bytes : List ℕ → List ℕ
option_bytes block = take (length block - 20) (drop 16 block)

abbrev pub with_link : Order → ℕ → List ℕ → Option Link → Result Interface CaptureError
with_link order byte block None = Err (Bad (byte + 8) reasons.LinkType)
with_link order byte block (Some link) =
    with_clock byte link (number order 4 (drop 12 block)) (options order (length (option_bytes block)) (option_bytes block) usual)

-- An interface description has the link type at 8, two reserved bytes, the snapshot length at 12, and options.
unfoldable pub interface : Order → ℕ → List ℕ → Result Interface CaptureError
interface order byte block = with_link order byte block (link_of (number order 2 (drop 8 block)))
