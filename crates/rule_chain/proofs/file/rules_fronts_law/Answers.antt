use Rattle.rule_chain.proofs.RulesFronts.{rules_file_closed}
use Rattle.rule_chain.proofs.file.rules_fronts_law.Goals as goal

pub returns : goal.returns
returns c = (rules_file_closed c.args._schema.now).front
