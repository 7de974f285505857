use Rattle.std.proofs.Common.{rules}
use Rattle.c_handles.proofs.Kept.{sets_there}
use Rattle.c_handles.proofs.changes.flush.Goals as goal

pub flush-requires : goal.flush-requires
flush-requires c = sets_there _ _ c.args.set c.known.ensures.open_sets (search rules)
