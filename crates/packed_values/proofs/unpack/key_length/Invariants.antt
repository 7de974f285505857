use Rattle.std.proofs.Common.{◌≡◌, ◌+◌, drop}
use Rattle.packed_values.specs.Packed.{packed_length}
use Rattle.packed_values.proofs.unpack.key_length.Given as goal

-- the bytes so far and those of the kinds that are left
abbrev pub invariant-fields : goal.invariant-fields
invariant-fields l = l.size + packed_length (drop l.kind-index l.kinds) ≡ packed_length l.kinds
