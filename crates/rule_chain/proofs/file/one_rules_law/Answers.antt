use Rattle.rule_chain.proofs.FileLaws.{rules_single}
use Rattle.rule_chain.proofs.file.one_rules_law.Goals as goal

pub returns : goal.returns
returns c = λ rules other. rules_single c.args._schema.now c.args._text.now rules other
