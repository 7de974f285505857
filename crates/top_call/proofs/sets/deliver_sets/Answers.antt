use Rattle.fault_notes.proofs.ToldLaws.{may_tell}
use Rattle.top_call.proofs.sets.deliver_sets.Goals as goal

pub returns-clause-tells : goal.returns-clause-tells
returns-clause-tells g c =
    let says = rw c.as_slice-skips.ensures at c.tell_skips.ensures in
    may_tell says
