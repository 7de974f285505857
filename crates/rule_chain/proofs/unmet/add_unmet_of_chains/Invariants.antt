use Rattle.std.proofs.Common.{◌≡◌, ◌++◌, take}
use Rattle.rule_chain.specs.Unmet.{has_no_key, of_chains}
use Rattle.rule_chain.proofs.unmet.add_unmet_of_chains.Given as goal

abbrev pub invariant-loop-chain : goal.invariant-loop-chain
invariant-loop-chain l = l.found.items ≡ l.fn.found.items ++ of_chains (has_no_key l.schema l.types) (take l.chain-index l.chains)
