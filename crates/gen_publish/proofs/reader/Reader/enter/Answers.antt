use Rattle.gen_publish.proofs.Growing.{seen_on}
use Rattle.gen_publish.proofs.reader.Reader.enter.Goals as goal

pub invariant_of-result : goal.invariant_of-result
invariant_of-result c = seen_on _ _ _ c.enter-inner.ensures.seen c.known.ensures c.self.invariant
