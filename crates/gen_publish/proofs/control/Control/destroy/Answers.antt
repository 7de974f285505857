use Rattle.gen_publish.proofs.KindLaws.{destruction_on}
use Rattle.gen_publish.proofs.control.Control.destroy.Goals as goal

pub invariant_of-self : goal.invariant_of-self
invariant_of-self c = (destruction_on _ _ _ _ _ c.self.invariant.0 _ _ _ c.destroy.ensures.change, c.self.invariant.1, c.self.invariant.2)
