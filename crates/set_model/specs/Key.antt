-- Keys and intervals: which fit a set's kinds, and which intervals hold a key (nft(8), concatenations).
use Rattle.std.specs.Prelude.{ℕ, ◌^◌, Bool, ◌&&◌, nat_lt, nat_le, ◌==◌, List, length, map}
use Rattle.std.specs.List.{list_all, zip}
use Rattle.set_model.specs.declared.kind.Kind.{Kind}
use Rattle.set_model.specs.declared.kind.Interval.{Interval}
use Rattle.set_model.specs.Kind.{bits_of}

-- A value of a kind is below 2 to the power of the kind's bits.
abbrev pub is_value : Kind → ℕ → Bool
is_value kind value = nat_lt value (2 ^ bits_of kind)

-- An interval is good: its low end is at most its high end, and the high end is a value of the
-- kind.
abbrev pub is_good : Kind → Interval → Bool
is_good kind part = nat_le part.low part.high && is_value kind part.high

abbrev pub values_fit : List Kind → List ℕ → Bool
values_fit kinds key = list_all (λ p. is_value p.0 p.1) (zip kinds key)

abbrev pub intervals_fit : List Kind → List Interval → Bool
intervals_fit kinds parts = list_all (λ p. is_good p.0 p.1) (zip kinds parts)

-- A key fits kinds: one value of each kind.
abbrev pub key_fits : List Kind → List ℕ → Bool
key_fits kinds key = (length kinds == length key) && values_fit kinds key

-- A list of intervals fits kinds: one good interval of each kind.
abbrev pub parts_fit : List Kind → List Interval → Bool
parts_fit kinds parts = (length kinds == length parts) && intervals_fit kinds parts

-- The start key of a list of intervals is the list of the lows.
abbrev pub start_key : List Interval → List ℕ
start_key parts = map (λ part. part.low) parts

-- The end key is the list of the highs.
abbrev pub end_key : List Interval → List ℕ
end_key parts = map (λ part. part.high) parts

-- An interval holds a value: low is at most the value, and the value is at most high.
abbrev pub contains : Interval → ℕ → Bool
contains part value = nat_le part.low value && nat_le value part.high

-- Intervals hold a key: in each field the interval holds the value.
abbrev pub parts_hold : List Interval → List ℕ → Bool
parts_hold parts key = list_all (λ p. contains p.0 p.1) (zip parts key)

-- Two lists have the same intervals.
abbrev pub same_parts : List Interval → List Interval → Bool
same_parts parts others = (length parts == length others) && list_all (λ p. (p.0.low == p.1.low) && (p.0.high == p.1.high)) (zip parts others)

-- Two lists of intervals share a key: in each field neither interval lies wholly above the other.
abbrev pub parts_share : List Interval → List Interval → Bool
parts_share parts others = list_all (λ p. nat_le p.0.low p.1.high && nat_le p.1.low p.0.high) (zip parts others)
