use Rattle.rule_chain.proofs.RulesLaws.{rule_line_shorter}
use Rattle.rule_chain.proofs.blocks.next_rule_line.Goals as goal

pub returns-clause-shorter : goal.returns-clause-shorter
returns-clause-shorter c = rule_line_shorter _ c.args.d.now _ _ _ _ _ c.rule_line.ensures
