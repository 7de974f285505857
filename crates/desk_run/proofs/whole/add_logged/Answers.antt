use Rattle.desk_run.proofs.Telling.{logged-more}
use Rattle.desk_run.proofs.whole.add_logged.Goals as goal

pub loop-entry-preserved : goal.loop-entry-preserved
loop-entry-preserved c =
    logged-more c.as_slice-entry-items.result.now c.loop-entry.entry-index c.entry-item.result c.as_slice.result.now c.args.refusals.now.items c.loop-entry.refusals.items c.add_refusals.new.refusals.items c.add_refusals-in-loop-entry.new.refusals.items
    c.loop-entry-test.true c.entry-item.is c.loop-entry.invariant c.as_slice.ensures c.in_ok-add_refusals.ensures c.in_ok-add_refusals-2.ensures
