use Rattle.std.proofs.Common.{length}
use Rattle.rule_chain.proofs.lines.+accepts_at.Given as goal

abbrev pub decreases-accepts_at : goal.decreases-accepts_at
decreases-accepts_at l = length l.chains.now
