-- The texts that are written for a value, an interval and a time.
use Rattle.std.specs.Prelude.{◌≡◌, ◌≤◌, ◌-◌, ◌&&◌, Bool, true, false, ℕ, zero, suc, ◌/◌, ◌%◌, ◌^◌, List, [], ◌∷◌, ◌++◌, map, flat_map, codes, decimal, unwrap_or, ◌==◌, if◌then◌else◌}
use Rattle.std.specs.Char.{digit_char}
use Rattle.std.specs.Int.{w128, leading_zeros}
use Rattle.std.specs.List.{join_with_byte}
use Rattle.std.specs.Net.Text.{ipv4_text, hex_groups_text}
use Rattle.set_model.specs.Kind.{bits_of}
use Rattle.set_model.specs.declared.kind.Kind.{Kind}
use Rattle.set_model.specs.declared.kind.Kind.TheVariants.{Ipv4, Ipv6, Ether, Proto, Service, Mark}
use Rattle.set_model.specs.declared.kind.Interval.{Interval}
use Rattle.addr_text.specs.declared.time_text.Count.{Count}
use Rattle.addr_text.specs.Intervals.{block_of}
use Rattle.addr_text.specs.Protocols.{protocol_name}

-- so many digits of a number in a base, the most significant first
abbrev pub places : ℕ → ℕ → ℕ → List ℕ
places base zero n = []
places base (suc k) n = (n / base ^ k % base) ∷ places base k n

-- so many hexadecimal digits in lower case
abbrev pub hex_text : ℕ → ℕ → List ℕ
hex_text len n = map digit_char (places 16 len n)

-- A value. An IPv6 address is written by RFC 5952, section 4, and never with a dotted tail.
unfoldable pub value_text : Kind → ℕ → List ℕ
value_text Ipv4 n = ipv4_text (places 256 4 n)
value_text Ipv6 n = hex_groups_text (places 65536 8 n)
value_text Ether n = join_with_byte 58 (map (hex_text 2) (places 256 6 n))
value_text Proto n = unwrap_or (protocol_name n) (decimal n)
value_text Service n = decimal n
value_text Mark n = codes "0x" ++ hex_text 8 n

-- how many of the first bits are fixed in a block, by the number of its values less 1
abbrev pub fixed_bits : ℕ → ℕ → ℕ
fixed_bits bits spread = bits - (128 - leading_zeros w128 spread)

-- The interval is a whole block of its kind's values (`block_law` says what that means).
abbrev pub is_whole_block : Kind → Interval → Bool
is_whole_block kind part =
    let block = block_of (bits_of kind) (fixed_bits (bits_of kind) (part.high - part.low)) part.low in
    (part.low == block.low) && (part.high == block.high)

-- a whole block: all values that share their first bits with the low end
abbrev pub IsBlock : Kind → Interval → Type 0
IsBlock kind part = (fixed : ℕ) × (fixed ≤ bits_of kind) × (part ≡ block_of (bits_of kind) fixed part.low)

-- only blocks of addresses are written with `/`
abbrev pub is_address : Kind → Bool
is_address Ipv4 = true
is_address Ipv6 = true
is_address Ether = false
is_address Proto = false
is_address Service = false
is_address Mark = false

-- a block as its low end, `/` and the number of fixed bits
abbrev pub block_text : Kind → Interval → List ℕ
block_text kind part = value_text kind part.low ++ (codes "/" ++ decimal (fixed_bits (bits_of kind) (part.high - part.low)))

-- an interval as its two ends
abbrev pub range_text : Kind → Interval → List ℕ
range_text kind part = value_text kind part.low ++ (codes "-" ++ value_text kind part.high)

-- an interval: a single value, a block, or a range
unfoldable pub interval_text : Kind → Interval → List ℕ
interval_text kind part =
    if part.low == part.high then value_text kind part.low
    else (if is_address kind && is_whole_block kind part then block_text kind part else range_text kind part)

-- each unit with its count in a time; hours are below 24, minutes and seconds below 60, milliseconds
-- below 1000
abbrev pub unit_counts : ℕ → List (ℕ × List ℕ)
unit_counts ms =
    (ms / 86_400_000, codes "d")
    ∷ (ms / 3_600_000 % 24, codes "h")
    ∷ (ms / 60_000 % 60, codes "m")
    ∷ (ms / 1_000 % 60, codes "s")
    ∷ (ms % 1_000, codes "ms")
    ∷ []

-- a count and its unit, if it isn't 0
abbrev pub count_text : ℕ × List ℕ → List ℕ
count_text c = if c.0 == 0 then [] else decimal c.0 ++ c.1

-- a time: its units that aren't 0, and `0s` for no time
unfoldable pub time_text : ℕ → List ℕ
time_text ms = if ms == 0 then codes "0s" else flat_map count_text (unit_counts ms)

-- the code's counts of a time, as pairs of a count and a unit
abbrev pub count_views : List Count → List (ℕ × List ℕ)
count_views cs = map (λ c. (c.count, c.unit.now)) cs
