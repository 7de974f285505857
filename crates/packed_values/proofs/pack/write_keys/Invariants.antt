use Rattle.std.proofs.Common.{◌≡◌, ◌+◌, ◌++◌, length, take, drop}
use Rattle.packed_values.specs.Packed.{packed_length, lows_of, highs_of}
use Rattle.packed_values.proofs.pack.write_keys.Given as goal

-- the bytes so far and those of the intervals that are left are those of all intervals
abbrev pub invariant-fields : goal.invariant-fields
invariant-fields l = record {
  low_bytes : length l.lows ≡ packed_length l.kinds;
  high_bytes : length l.highs ≡ packed_length l.kinds;
  left : l.at + packed_length (drop l.i l.kinds) ≡ packed_length l.kinds;
  lows : take l.at l.lows ++ lows_of (drop l.i l.kinds) (drop l.i l.parts) ≡ lows_of l.kinds l.parts;
  highs : take l.at l.highs ++ highs_of (drop l.i l.kinds) (drop l.i l.parts) ≡ highs_of l.kinds l.parts;
}
