use Rattle.c_handles.proofs.Refused.{deletion_refused}
use Rattle.c_handles.proofs.changes.delete_in.Goals as goal

pub returns-clause-refused : goal.returns-clause-refused
returns-clause-refused c = deletion_refused c.args.control.now c.args.set c.args.bounds.now c.args.now c.in-Err-delete.error c.in-Ok.parts c.delete.new.self.work c.fault_of.result c.in-Ok.ensures.parts c.in-Ok.ensures.element c.in-Err-delete.ensures.change c.fault_of.ensures
