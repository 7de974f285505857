use Rattle.std.proofs.Common.{◌≡◌, take}
use Rattle.rule_chain.specs.Unmet.{sets_of, key_types}
use Rattle.rule_chain.proofs.unmet.key_types.Given as goal

abbrev pub invariant-loop-packets : goal.invariant-loop-packets
invariant-loop-packets l = l.types.items ≡ key_types l.schema (sets_of (take l.packets-index l.keys))
