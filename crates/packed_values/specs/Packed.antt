-- The values that bytes stand for: field after field, each in network byte order.
use Rattle.std.specs.Prelude.{◌≡◌, ◌≢◌, ℕ, ◌+◌, ◌*◌, ◌/◌, Bool, false, nat_le, List, [], ◌∷◌, ◌++◌, length, take, drop}
use Rattle.std.specs.List.{list_all}
use Rattle.set_model.specs.declared.kind.Kind.{Kind}
use Rattle.set_model.specs.declared.kind.Kind.TheVariants.{Ipv4, Ipv6, Ether, Proto, Service, Mark}
use Rattle.set_model.specs.declared.kind.Interval.{Interval}
use Rattle.addr_text.specs.Numbers.{big_endian}
use Rattle.byteorder.specs.Endian.{big_bytes}
use Rattle.packed_values.specs.declared.unpack.PartsError.{PartsError}
use Rattle.packed_values.specs.declared.unpack.PartsError.TheVariants.{Length, Falls, Memory}

-- how many bytes a value of a kind has
abbrev pub width_of : Kind → ℕ
width_of Ipv4 = 4
width_of Ipv6 = 16
width_of Ether = 6
width_of Proto = 1
width_of Service = 2
width_of Mark = 4

-- how many bytes a key of these kinds has
abbrev pub packed_length : List Kind → ℕ
packed_length [] = 0
packed_length (kind ∷ kinds) = width_of kind + packed_length kinds

-- the values that bytes stand for
abbrev pub values_in : List Kind → List ℕ → List ℕ
values_in [] bytes = []
values_in (kind ∷ kinds) bytes = big_endian 256 (take (width_of kind) bytes) ∷ values_in kinds (drop (width_of kind) bytes)

-- the intervals between the values of two keys
abbrev pub intervals_in : List Kind → List ℕ → List ℕ → List Interval
intervals_in [] lows highs = []
intervals_in (kind ∷ kinds) lows highs =
    record { low = big_endian 256 (take (width_of kind) lows); high = big_endian 256 (take (width_of kind) highs) } ∷
    intervals_in kinds (drop (width_of kind) lows) (drop (width_of kind) highs)

-- the intervals of an element: its low values are the first half of the bytes, its high values the other half
abbrev pub parts_in : List Kind → List ℕ → List Interval
parts_in kinds bounds = intervals_in kinds (take (length bounds / 2) bounds) (drop (length bounds / 2) bounds)

-- the bytes of the low values of intervals, and of the high values
abbrev pub lows_of : List Kind → List Interval → List ℕ
lows_of (kind ∷ kinds) (part ∷ parts) = big_bytes (width_of kind) part.low ++ lows_of kinds parts
lows_of kinds parts = []

abbrev pub highs_of : List Kind → List Interval → List ℕ
highs_of (kind ∷ kinds) (part ∷ parts) = big_bytes (width_of kind) part.high ++ highs_of kinds parts
highs_of kinds parts = []

-- so many bytes are the bounds of one element: two keys
abbrev pub IsBounds : List Kind → List ℕ → Type 0
IsBounds kinds bounds = length bounds ≡ 2 * packed_length kinds

-- no interval falls: the low value of each is at most its high value
abbrev pub all_rise : List Interval → Bool
all_rise parts = list_all (λ part. nat_le part.low part.high) parts

-- Why bytes are no intervals: there are too few or too many, or an interval falls. Memory is asked for only if there are as
-- many as there must be.
abbrev pub Refuses : List Kind → List ℕ → PartsError → Type 0
Refuses kinds bounds Length = length bounds ≢ 2 * packed_length kinds
Refuses kinds bounds Falls = IsBounds kinds bounds × (all_rise (parts_in kinds bounds) ≡ false)
Refuses kinds bounds Memory = IsBounds kinds bounds
