use Rattle.std.proofs.Common.{length}
use Rattle.rule_chain.proofs.decide.+meets_all.Given as goal

abbrev pub decreases-meets_all : goal.decreases-meets_all
decreases-meets_all g l = length l.tests.now
