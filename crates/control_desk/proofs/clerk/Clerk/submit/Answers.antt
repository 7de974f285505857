use Rattle.std.proofs.Common.{sym, subst, List, All, IfOk}
use Rattle.set_model.specs.declared.script.Step.{Step}
use Rattle.set_model.specs.Runnable.{IsRunnableStep}
use Rattle.control_desk.specs.Woven.{IsTransaction}
use Rattle.control_desk.specs.Turns.{IsLogged}
use Rattle.control_desk.proofs.clerk.Clerk.submit.Goals as goal

pub submit_steps-requires-clause-transaction : goal.submit_steps-requires-clause-transaction
submit_steps-requires-clause-transaction g c = subst IsTransaction (sym c.as_slice.ensures) c.requires.transaction

pub submit_steps-requires-clause-fits : goal.submit_steps-requires-clause-fits
submit_steps-requires-clause-fits g c = subst (All (IsRunnableStep c.args.self.now.schema)) (sym c.as_slice.ensures) c.requires.fits

pub returns-clause-ok : goal.returns-clause-ok
returns-clause-ok g c = subst (λ (z : List Step). IfOk c.submit_steps.result (IsLogged z c.args.keep_going c.args.self.now c.submit_steps.new.self)) c.as_slice.ensures c.submit_steps.ensures.ok
