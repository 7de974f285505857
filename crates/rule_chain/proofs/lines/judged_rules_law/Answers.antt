use Rattle.rule_chain.proofs.DecidingLaws.{judged-deciding}
use Rattle.rule_chain.proofs.lines.judged_rules_law.Goals as goal

pub returns : goal.returns
returns c = judged-deciding c.args._chains.now
