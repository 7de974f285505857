use Rattle.rule_chain.proofs.UnmetLaws.{never_met}
use Rattle.rule_chain.proofs.unmet.unmet_law.Goals as goal

pub returns : goal.returns
returns c = never_met c.args._schema.now
