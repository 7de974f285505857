use Rattle.std.proofs.Common.{length}
use Rattle.rule_chain.proofs.decide.+count_rules.Given as goal

abbrev pub decreases-count_rules : goal.decreases-count_rules
decreases-count_rules l = length l.chains.now
