use Rattle.gen_publish.proofs.KindLaws.{flush_on}
use Rattle.gen_publish.proofs.control.Control.flush.Goals as goal

pub invariant_of-self : goal.invariant_of-self
invariant_of-self c = (flush_on _ _ _ _ _ c.self.invariant.0 _ c.flush.ensures.change, c.self.invariant.1, c.self.invariant.2)
