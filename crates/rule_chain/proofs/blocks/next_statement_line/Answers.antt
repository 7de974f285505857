use Rattle.rule_chain.proofs.RulesLaws.{statement_line_shorter}
use Rattle.rule_chain.proofs.blocks.next_statement_line.Goals as goal

pub returns-clause-shorter : goal.returns-clause-shorter
returns-clause-shorter c = statement_line_shorter _ _ _ _ _ _ c.statement_line.ensures
