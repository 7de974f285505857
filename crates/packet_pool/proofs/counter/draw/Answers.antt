use Rattle.std.proofs.Common.{rules}
use Rattle.packet_pool.proofs.Drawing.{draws}
use Rattle.packet_pool.proofs.counter.draw.Goals as goal

pub fetch_add-requires : goal.fetch_add-requires
fetch_add-requires c = (search rules, search rules, draws _ _ _ _ _ c.requires.worker)
