use Rattle.std.proofs.Common.{◌≡◌, ◌++◌, length, drop}
use Rattle.packed_values.specs.Packed.{intervals_in, packed_length}
use Rattle.packed_values.proofs.unpack.read_intervals.Given as goal

-- the intervals so far and those of the bytes that are left are those of all bytes
abbrev pub invariant-fields : goal.invariant-fields
invariant-fields l = record {
  intervals : l.intervals.items ++ intervals_in (drop l.i l.kinds) l.rest_of_lows l.rest_of_highs ≡ intervals_in l.kinds l.lows l.highs;
  lows : length l.rest_of_lows ≡ packed_length (drop l.i l.kinds);
  highs : length l.rest_of_highs ≡ packed_length (drop l.i l.kinds);
}
