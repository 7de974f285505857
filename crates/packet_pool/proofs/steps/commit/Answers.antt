use Rattle.std.proofs.Common.{ap, inl}
use Rattle.std.proofs.lemmas.Result.{on_ok_weaker, on_err_weaker}
use Rattle.set_model.specs.declared.report.Event.TheVariants.{Dropped}
use Rattle.set_model.specs.Control.{mode_of}
use Rattle.packet_pool.proofs.RunLaws.{dropped_end}
use Rattle.packet_pool.proofs.steps.commit.Goals as goal

pub returns-then-failed-clause-ok : goal.returns-then-failed-clause-ok
returns-then-failed-clause-ok g c =
    on_ok_weaker c.rewind.result
    (dropped_end (mode_of c.args.keep_going) _ _ _ c.args.now c.if-failed.true (ap Dropped c.number-generation.ensures))
    c.rewind.ensures.ok

pub returns-then-failed-clause-err : goal.returns-then-failed-clause-err
returns-then-failed-clause-err g c = on_err_weaker c.rewind.result (λ same. inl same) c.rewind.ensures.err
