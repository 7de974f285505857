use Rattle.std.proofs.Common.{arith}
use Rattle.gen_publish.proofs.Growing.{seen_last, as_many}
use Rattle.gen_publish.proofs.reader.Held.sets.Goals as goal

pub returns-clause-many : goal.returns-clause-many
returns-clause-many c = let many = as_many _ _ (seen_last _ _ _ c.self.invariant c.get.ensures).1 in grind (arith, many)
