use Rattle.std.proofs.Common.{rules}
use Rattle.c_handles.specs.Calls.{seen_at}
use Rattle.c_handles.proofs.Batch.{found_all}
use Rattle.c_handles.proofs.seat.look_all_up_published.Goals as goal

pub returns-clause-ok : goal.returns-clause-ok
returns-clause-ok c = found_all (seen_at c.args.place.now) c.enter-held.result.seen c.leave.result.seen c.args.room.now c.args.set c.args.keys.now c.args.now c.find_all-number.new.ids c.find_all-number.result
    c.find_all-number.ensures.ids (search rules) (search rules)
