-- The times of an interface of pcapng (draft-ietf-opsawg-pcapng, "Interface Description Block").
use Rattle.std.specs.Prelude.{ℕ, zero, suc, ◌+◌, ◌-◌, ◌*◌, ◌/◌, ◌%◌, ◌^◌, Bool, false, not, ◌==◌, nat_lt, if◌then◌else◌, List, length, take, drop, slice_index, Option, Some, None}
use Rattle.pcap_keys.specs.Savefile.{number}
use Rattle.pcap_keys.specs.declared.format.Order.{Order}
use Rattle.pcap_keys.specs.declared.clock.Clock.{Clock}

-- what an interface says of its times without options
abbrev pub usual : Clock
usual = record { units = None; offset = None }

-- what was said before, or else this
abbrev pub first_said : Option ℕ → ℕ → ℕ
first_said None value = value
first_said (Some before) value = before

-- a number of units per second that has 64 bits
abbrev pub if_fits : ℕ → Option ℕ
if_fits units = if nat_lt units (2 ^ 64) then Some units else None

-- if_tsresol: the units of a second are a power of ten, or if the high bit is set a power of two.
abbrev pub units_of : ℕ → Option ℕ
units_of resolution = if nat_lt resolution 128 then if_fits (10 ^ resolution) else if_fits (2 ^ (resolution - 128))

-- if_tsoffset: the seconds of the time 0, a signed number of 64 bits. The origin of times is 2^63 seconds before 1970, so that
-- no time is negative.
abbrev pub offset_of : Order → List ℕ → ℕ
offset_of order value = (number order 8 value + 2 ^ 63) % 2 ^ 64

abbrev pub with_units : Clock → Option ℕ → Option Clock
with_units clock (Some units) = Some (record { units = Some (first_said clock.units units); offset = clock.offset })
with_units clock None = None

-- An option of code 9 is if_tsresol, of one byte, and one of code 14 is if_tsoffset, of eight. Others say nothing of times.
-- Of two options of one code the first counts.
unfoldable pub with_option : Order → ℕ → List ℕ → Clock → Option Clock
with_option order code value clock =
    if code == 9 then (if length value == 1 then with_units clock (units_of (slice_index value 0)) else None)
    else if code == 14 then (if length value == 8 then Some (record { units = clock.units; offset = Some (first_said clock.offset (offset_of order value)) }) else None)
    else Some clock

-- An option has its code (2 bytes), the length of its value (2), and its value.
abbrev pub value_size : Order → List ℕ → ℕ
value_size order bytes = number order 2 (drop 2 bytes)

-- Zeros fill the value up to a multiple of four bytes.
abbrev pub option_size : Order → List ℕ → ℕ
option_size order bytes = 4 + (value_size order bytes + 3) / 4 * 4

-- The options end with the block, or with an option of code 0.
abbrev pub has_option : Order → List ℕ → Bool
has_option order bytes = if nat_lt (length bytes) 4 then false else not (number order 2 bytes == 0)

abbrev pub and_then : Option Clock → (Clock → Option Clock) → Option Clock
and_then (Some clock) next = next clock
and_then None next = None

-- The clock after all options, or none if an option isn't whole or has another length than its code's. `turns` is at least the
-- number of bytes.
abbrev pub options : Order → ℕ → List ℕ → Clock → Option Clock
options order zero bytes clock = Some clock
options order (suc turns) bytes clock =
    if not (has_option order bytes) then Some clock
    else if nat_lt (length bytes) (option_size order bytes) then None
    else and_then (with_option order (number order 2 bytes) (take (value_size order bytes) (drop 4 bytes)) clock)
    (λ next. options order turns (drop (option_size order bytes) bytes) next)

-- Milliseconds from the origin, rounded down. Without options a time counts microseconds from 1970 on.
abbrev pub time : Clock → ℕ → ℕ
time clock stamp = stamp * 1000 / first_said clock.units 1000000 + first_said clock.offset (2 ^ 63) * 1000
