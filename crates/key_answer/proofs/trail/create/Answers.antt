use Rattle.std.proofs.Common.{ap, sym, Err}
use Rattle.key_answer.proofs.TraceLaws.{created, created_by}
use Rattle.key_answer.proofs.trail.create.Goals as goal

pub returns-in-Err-clause-change : goal.returns-in-Err-clause-change
returns-in-Err-clause-change c = created c.args.element.now c.args.now c.args.control.now.work c.args.set c.create.new.self.work c.create.result (Err c.in-Err.error) (ap created_by (sym c.in-Err.is)) c.create.ensures.change
