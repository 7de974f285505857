use Rattle.gen_publish.proofs.Growing.{seen_on}
use Rattle.gen_publish.proofs.reader.Reader.meet.Goals as goal

pub invariant_of-self : goal.invariant_of-self
invariant_of-self c = seen_on _ _ _ c.meet.ensures.one_list.0 c.known.ensures c.self.invariant
