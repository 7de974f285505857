use Rattle.rule_chain.proofs.RulesLaws.{test_shorter}
use Rattle.rule_chain.proofs.rules.next_test.Goals as goal

pub returns-clause-shorter : goal.returns-clause-shorter
returns-clause-shorter c = test_shorter _ _ _ _ _ _ c.test.ensures
