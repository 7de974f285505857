-- The headers of libpcap's classic format, version 2.4 (pcap-savefile(5)).
use Rattle.std.specs.Prelude.{ℕ, ◌+◌, ◌*◌, ◌/◌, Bool, ◌&&◌, ◌==◌, nat_le, if◌then◌else◌, List, length, take, drop, Option, Some, None, option_map}
use Rattle.std.specs.Option.{option_or}
use Rattle.byteorder.specs.Endian.{big_number, little_number}
use Rattle.pcap_keys.specs.declared.format.Order.{Order}
use Rattle.pcap_keys.specs.declared.format.Order.TheVariants as orders
use Rattle.pcap_keys.specs.declared.format.Format.{Format}
use Rattle.pcap_keys.specs.declared.format.Fraction.{Fraction}
use Rattle.pcap_keys.specs.declared.format.Fraction.TheVariants as fractions

-- the number in the first n bytes
unfoldable pub number : Order → ℕ → List ℕ → ℕ
number orders.Big n bytes = big_number n bytes
number orders.Little n bytes = little_number n bytes

-- The magic 0xa1b2c3d4 says that fractions are microseconds, and 0xa1b23c4d that they are nanoseconds.
abbrev pub fraction_of : ℕ → Option Fraction
fraction_of magic = if magic == 0xa1b2c3d4 then Some fractions.Micro else if magic == 0xa1b23c4d then Some fractions.Nano else None

abbrev pub per_millisecond : Fraction → ℕ
per_millisecond fractions.Micro = 1000
per_millisecond fractions.Nano = 1000000

abbrev pub format_in : Order → List ℕ → Option Format
format_in order text = option_map (λ fraction. record { order = order; fraction = fraction }) (fraction_of (number order 4 text))

-- The byte order of the numbers is the one in which the first four bytes are a magic.
abbrev pub format_of : List ℕ → Option Format
format_of text = option_or (format_in orders.Big text) (format_in orders.Little text)

-- The header of the file has 24 bytes: the magic, the major version at 4, the minor version at 6, the
-- link type at 20. Only the low 16 bits of the link type count.
abbrev pub is_version : Format → List ℕ → Bool
is_version format text = (number format.order 2 (drop 4 text) == 2) && (number format.order 2 (drop 6 text) == 4)

-- The header of a record has 16 bytes: its seconds, their fraction at 4, the number of kept bytes at 8.
abbrev pub record_time : Format → List ℕ → ℕ
record_time format bytes = number format.order 4 bytes * 1000 + number format.order 4 (drop 4 bytes) / per_millisecond format.fraction

abbrev pub kept : Format → List ℕ → ℕ
kept format bytes = number format.order 4 (drop 8 bytes)

-- the record's header and its kept bytes are there
unfoldable pub is_whole : Format → List ℕ → Bool
is_whole format bytes = nat_le 16 (length bytes) && nat_le (16 + kept format bytes) (length bytes)

-- the kept bytes of a record's frame
abbrev pub frame_bytes : Format → List ℕ → List ℕ
frame_bytes format bytes = take (kept format bytes) (drop 16 bytes)
