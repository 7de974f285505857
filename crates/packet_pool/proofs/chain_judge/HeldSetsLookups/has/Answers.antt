use Rattle.std.proofs.Common.{◌∙◌}
use Rattle.packet_pool.proofs.Found.{found-holds}
use Rattle.packet_pool.proofs.chain_judge.HeldSetsLookups.has.Goals as goal

pub returns-clause-found : goal.returns-clause-found
returns-clause-found c = λ g ends. c.is_some.ensures ∙ found-holds g c.args.set c.args.key.now c.args.now c.lookup.result (c.lookup.ensures.found g ends)
