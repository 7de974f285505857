use Rattle.std.proofs.Common.{rules}
use Rattle.c_handles.specs.Calls.{seen_at}
use Rattle.c_handles.proofs.Found.{found_one}
use Rattle.c_handles.proofs.seat.look_up_published.Goals as goal

pub returns-clause-ok : goal.returns-clause-ok
returns-clause-ok c = found_one (seen_at c.args.place.now) c.enter-held.result.seen c.leave.result.seen c.args.room.now c.args.set c.args.key.now c.args.now c.find-id.result
    c.find-id.ensures.id (search rules) (search rules)
