use Rattle.desk_run.proofs.Taking.{entry_taken}
use Rattle.desk_run.proofs.order.take_entry.Goals as goal

pub returns : goal.returns
returns c = entry_taken c.args.sections.now c.as_mut_slice.result.now c.take_at.new.sections c.args.entry.now c.len.result c.take_at.result c.as_mut_slice.ensures.value c.len.ensures c.take_at.ensures
