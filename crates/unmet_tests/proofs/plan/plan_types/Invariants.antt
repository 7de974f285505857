use Rattle.std.proofs.Common.{◌≡◌, take}
use Rattle.rule_chain.specs.Unmet.{key_types}
use Rattle.unmet_tests.specs.UnmetText.{plan_sets}
use Rattle.unmet_tests.proofs.plan.plan_types.Given as goal

abbrev pub invariant-loop-line : goal.invariant-loop-line
invariant-loop-line l = l.types.items ≡ key_types l.schema (plan_sets (take l.line-index l.plan))
