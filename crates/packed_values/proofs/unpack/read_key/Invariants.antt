use Rattle.std.proofs.Common.{◌≡◌, ◌++◌, length, take, drop}
use Rattle.packed_values.specs.Packed.{values_in, packed_length}
use Rattle.packed_values.proofs.unpack.read_key.Given as goal

-- the values so far and those of the bytes that are left are those of all bytes, and as many bytes are left as the kinds
-- that are left have
abbrev pub invariant-fields : goal.invariant-fields
invariant-fields l = record {
  count : length l.key ≡ length l.kinds;
  values : take l.i l.key ++ values_in (drop l.i l.kinds) l.rest ≡ values_in l.kinds l.bytes;
  left : length l.rest ≡ packed_length (drop l.i l.kinds);
}
