use Rattle.std.proofs.Common.{rules}
use Rattle.packet_pool.proofs.Drawing.{counts}
use Rattle.packet_pool.proofs.counter.count_drawn.Goals as goal

pub load-requires : goal.load-requires
load-requires c = (search rules, search rules, counts _ _ _ _ _ c.requires.workers)
