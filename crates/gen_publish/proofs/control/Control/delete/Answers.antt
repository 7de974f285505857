use Rattle.gen_publish.proofs.KindLaws.{removal_on}
use Rattle.gen_publish.proofs.control.Control.delete.Goals as goal

pub invariant_of-self : goal.invariant_of-self
invariant_of-self c = (removal_on _ _ _ _ _ c.self.invariant.0 _ _ _ c.delete.ensures.change, c.self.invariant.1, c.self.invariant.2)
