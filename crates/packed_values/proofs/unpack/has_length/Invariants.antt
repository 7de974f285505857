use Rattle.std.proofs.Common.{◌≡◌, ◌+◌, drop}
use Rattle.packed_values.specs.Packed.{packed_length}
use Rattle.packed_values.proofs.unpack.has_length.Given as goal

-- what is left beside the kinds that are left
abbrev pub invariant-fields : goal.invariant-fields
invariant-fields l = l.left + packed_length l.kinds ≡ l.length + packed_length (drop l.kind-index l.kinds)
