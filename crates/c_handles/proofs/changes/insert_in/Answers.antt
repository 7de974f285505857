use Rattle.c_handles.proofs.Refused.{insertion_refused}
use Rattle.c_handles.proofs.changes.insert_in.Goals as goal

pub returns-clause-refused : goal.returns-clause-refused
returns-clause-refused c = insertion_refused c.args.control.now c.args.set c.args.bounds.now c.args.expiry c.args.comment.now c.args.now c.in-Err-insert.error c.in-Ok.element c.insert.new.self.work c.fault_of.result c.in-Ok.ensures.new_element c.in-Ok.ensures.element c.in-Err-insert.ensures.change c.fault_of.ensures
