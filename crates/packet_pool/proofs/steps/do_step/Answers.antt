use Rattle.std.proofs.Common.{ap, subst, inl}
use Rattle.std.proofs.lemmas.Result.{on_ok_weaker, on_err_weaker}
use Rattle.set_model.specs.declared.report.Event.TheVariants.{Aborted}
use Rattle.set_model.specs.Control.{mode_of}
use Rattle.set_model.specs.Runnable.{IsRunnableStep}
use Rattle.packet_pool.proofs.RunLaws.{open_change, open_flush, aborted_end, step_within, step_fits}
use Rattle.packet_pool.proofs.steps.do_step.Goals as goal

pub try_change-requires-clause-fits : goal.try_change-requires-clause-fits
try_change-requires-clause-fits g c =
    let asked = subst (IsRunnableStep c.args.control.now.schema) c.in-Change.is c.requires.runnable in
    step_fits c.args.control.now.schema c.args.control.now.work c.in-Change.set asked.0 c.in-Change.element.parts c.known.ensures.open_sets asked.1 asked.2

pub try_flush-requires : goal.try_flush-requires
try_flush-requires g c =
    let asked = subst (IsRunnableStep c.args.control.now.schema) c.in-Flush.is c.requires.runnable in
    step_within c.args.control.now.schema c.args.control.now.work c.in-Flush.set asked.0 c.known-in-Flush.ensures.open_sets asked.1

pub returns-else-failed-clause-ok : goal.returns-else-failed-clause-ok
returns-else-failed-clause-ok g c = rw c.in-Change.is
    (on_ok_weaker c.try_change.result
    (open_change (mode_of c.args.keep_going) _ _ c.in-Change.line c.in-Change.set c.in-Change.verb c.in-Change.element c.in-Change.now c.if-failed.false)
    c.try_change.ensures.ok)

pub returns-else-failed-clause-err : goal.returns-else-failed-clause-err
returns-else-failed-clause-err g c = on_err_weaker c.try_change.result (λ same. inl same) c.try_change.ensures.err

pub returns-else-failed-2-clause-ok : goal.returns-else-failed-2-clause-ok
returns-else-failed-2-clause-ok g c = rw c.in-Flush.is
    (on_ok_weaker c.try_flush.result
    (λ does. open_flush (mode_of c.args.keep_going) _ _ c.in-Flush.line c.in-Flush.set c.in-Flush.now c.if-failed-2.false (does c.args.events.now c.args.failed.now))
    c.try_flush.ensures.ok)

pub returns-else-failed-2-clause-err : goal.returns-else-failed-2-clause-err
returns-else-failed-2-clause-err g c = on_err_weaker c.try_flush.result (λ same. inl same) c.try_flush.ensures.err

pub returns-in-Commit-clause-ok : goal.returns-in-Commit-clause-ok
returns-in-Commit-clause-ok g c = rw c.in-Commit.is c.commit.ensures.ok

pub returns-in-Commit-clause-err : goal.returns-in-Commit-clause-err
returns-in-Commit-clause-err g c = rw c.in-Commit.is c.commit.ensures.err

pub returns-in-Abort-clause-ok : goal.returns-in-Abort-clause-ok
returns-in-Abort-clause-ok g c = rw c.in-Abort.is
    (on_ok_weaker c.rewind.result
    (aborted_end (mode_of c.args.keep_going) _ _ _ (ap Aborted c.number-generation.ensures))
    c.rewind.ensures.ok)

pub returns-in-Abort-clause-err : goal.returns-in-Abort-clause-err
returns-in-Abort-clause-err g c = on_err_weaker c.rewind.result (λ same. inl same) c.rewind.ensures.err
