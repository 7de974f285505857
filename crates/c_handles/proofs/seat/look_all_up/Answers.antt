use Rattle.std.proofs.Common.{rules}
use Rattle.c_handles.specs.Calls.{seen_at}
use Rattle.c_handles.proofs.Batch.{found_all}
use Rattle.c_handles.proofs.seat.look_all_up.Goals as goal

pub returns-in-In-clause-ok : goal.returns-in-In-clause-ok
returns-in-In-clause-ok c = found_all (seen_at c.args.place.now) c.in-In.held.seen c.find_all.new.held.seen c.args.room.now c.args.set c.args.keys.now c.args.now c.find_all.new.ids c.find_all.result
    c.find_all.ensures.ids (search rules) (search rules)
