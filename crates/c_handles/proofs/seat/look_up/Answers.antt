use Rattle.std.proofs.Common.{rules}
use Rattle.c_handles.specs.Calls.{seen_at}
use Rattle.c_handles.proofs.Found.{found_one}
use Rattle.c_handles.proofs.seat.look_up.Goals as goal

pub returns-in-In-clause-ok : goal.returns-in-In-clause-ok
returns-in-In-clause-ok c = found_one (seen_at c.args.place.now) c.in-In.held.seen c.find.new.held.seen c.args.room.now c.args.set c.args.key.now c.args.now c.find.result
    c.find.ensures.id (search rules) (search rules)
