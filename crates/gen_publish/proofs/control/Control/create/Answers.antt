use Rattle.gen_publish.proofs.KindLaws.{creation_on}
use Rattle.gen_publish.proofs.control.Control.create.Goals as goal

pub invariant_of-self : goal.invariant_of-self
invariant_of-self c = (creation_on _ _ _ _ _ c.self.invariant.0 _ _ _ c.create.ensures.change, c.self.invariant.1, c.self.invariant.2)
