use Rattle.c_handles.proofs.HeldSets.{held_set}
use Rattle.c_handles.proofs.elements.Elements.of_held.Goals as goal

pub returns-clause-ok : goal.returns-clause-ok
returns-clause-ok c = held_set c.args.held.now c.sets-sets.result.now c.args.set c.of_set.result c.sets-sets.ensures.sets c.of_set.ensures.ok
