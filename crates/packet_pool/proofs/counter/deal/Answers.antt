use Rattle.std.proofs.Common.{rules}
use Rattle.packet_pool.proofs.Drawing.{deals}
use Rattle.packet_pool.proofs.counter.deal.Goals as goal

pub split_seat-requires : goal.split_seat-requires
split_seat-requires c = (search rules, search rules, deals _ _ _ _ c.requires.worker.0 c.requires.worker.1 c.requires.worker.2)
