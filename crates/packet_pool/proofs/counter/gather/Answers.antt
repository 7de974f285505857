use Rattle.std.proofs.Common.{rules}
use Rattle.packet_pool.proofs.Drawing.{gathers}
use Rattle.packet_pool.proofs.counter.gather.Goals as goal

pub join_seat-requires : goal.join_seat-requires
join_seat-requires c = (search rules, search rules, search rules, search rules, gathers _ _ _ _ _ _ c.requires.worker)
