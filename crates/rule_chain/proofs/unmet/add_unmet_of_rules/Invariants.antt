use Rattle.std.proofs.Common.{◌≡◌, ◌++◌, take}
use Rattle.std.specs.List.{flat_map}
use Rattle.rule_chain.specs.Unmet.{has_no_key, of_rule}
use Rattle.rule_chain.proofs.unmet.add_unmet_of_rules.Given as goal

abbrev pub invariant-loop-rule : goal.invariant-loop-rule
invariant-loop-rule l = l.found.items ≡ l.fn.found.items ++ flat_map (of_rule (has_no_key l.schema l.types)) (take l.rule-index l.rules)
