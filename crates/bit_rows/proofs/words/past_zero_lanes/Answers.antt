use Rattle.std.proofs.Common.{arith}
use Rattle.bit_rows.proofs.Places.{none-further}
use Rattle.bit_rows.proofs.words.past_zero_lanes.Goals as goal

pub lanes-preserved : goal.lanes-preserved
lanes-preserved c =
    none-further _ _ _ _ c.lanes.invariant (λ k low high. c.are_lanes_zero.ensures c.if-not-are_lanes_zero.false k low (omega arith))
