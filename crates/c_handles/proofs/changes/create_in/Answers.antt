use Rattle.c_handles.proofs.Refused.{creation_refused}
use Rattle.c_handles.proofs.changes.create_in.Goals as goal

pub returns-clause-refused : goal.returns-clause-refused
returns-clause-refused c = creation_refused c.args.control.now c.args.set c.args.bounds.now c.args.expiry c.args.comment.now c.args.now c.in-Err-create.error c.in-Ok.element c.create.new.self.work c.fault_of.result c.in-Ok.ensures.new_element c.in-Ok.ensures.element c.in-Err-create.ensures.change c.fault_of.ensures
