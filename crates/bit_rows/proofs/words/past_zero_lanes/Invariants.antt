use Rattle.std.proofs.Common.{◌+◌, ◌*◌}
use Rattle.bit_rows.proofs.Places.{IsNoneUpTo}
use Rattle.bit_rows.proofs.words.past_zero_lanes.Given as goal

abbrev pub invariant-lanes : goal.invariant-lanes
invariant-lanes l = IsNoneUpTo l.words (64 * l.from) (l.from + 8 * l.b)
