use Rattle.std.proofs.Common.{◌≡◌, ◌++◌, take}
use Rattle.std.specs.List.{filter}
use Rattle.rule_chain.specs.Unmet.{has_no_key}
use Rattle.rule_chain.proofs.unmet.add_unmet.Given as goal

abbrev pub invariant-loop-test : goal.invariant-loop-test
invariant-loop-test l = l.found.items ≡ l.fn.found.items ++ filter (has_no_key l.schema l.types) (take l.test-index l.tests)
