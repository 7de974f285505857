use Rattle.std.proofs.Common.{sym, subst, List, All, IfOk}
use Rattle.set_model.specs.declared.script.Step.{Step}
use Rattle.set_model.specs.Runnable.{IsRunnableStep}
use Rattle.control_desk.specs.Woven.{IsTransaction}
use Rattle.control_desk.specs.Books.{IsApplied}
use Rattle.control_desk.proofs.book.Book.apply.Goals as goal

pub apply_steps-requires-clause-transaction : goal.apply_steps-requires-clause-transaction
apply_steps-requires-clause-transaction c = subst IsTransaction (sym c.as_slice.ensures) c.requires.transaction

pub apply_steps-requires-clause-fits : goal.apply_steps-requires-clause-fits
apply_steps-requires-clause-fits c = subst (All (IsRunnableStep c.args.self.now.control.schema)) (sym c.as_slice.ensures) c.requires.fits

pub returns-clause-ok : goal.returns-clause-ok
returns-clause-ok c = subst (λ (z : List Step). IfOk c.apply_steps.result (λ end. IsApplied c.args.clerk z c.args.keep_going c.args.self.now c.apply_steps.new.self end)) c.as_slice.ensures c.apply_steps.ensures.ok
