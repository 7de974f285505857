use Rattle.std.proofs.Common.{arith}
use Rattle.gen_publish.proofs.Growing.{seen_last}
use Rattle.gen_publish.proofs.reader.Held.generation.Goals as goal

pub returns-clause-place : goal.returns-clause-place
returns-clause-place c = let last = (seen_last _ _ _ c.self.invariant c.get.ensures).0 in grind (arith, last)
