use Rattle.packet_pool.proofs.Drawing.{opens, draws, deals, gathers, counts}
use Rattle.packet_pool.proofs.laws.every_step.Goals as goal

pub returns : goal.returns
returns c = record { opening = opens; draw = draws; split = deals; join = gathers; count = counts }
