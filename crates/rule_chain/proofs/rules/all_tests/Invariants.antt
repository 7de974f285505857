use Rattle.std.proofs.Common.{length}
use Rattle.token_forms.proofs.LoopLaws.{Left}
use Rattle.rule_chain.specs.RulesReading as reading
use Rattle.rule_chain.proofs.rules.all_tests.Given as goal

abbrev pub invariant-tests : goal.invariant-tests
invariant-tests l = Left reading.starts_test (reading.one_test l.schema) l.tests l.reader (reading.all_tests l.fn.schema l.fn.reader)

abbrev pub decreases-tests : goal.decreases-tests
decreases-tests l = length l.reader
