use Rattle.std.proofs.Common.{◌≡◌, ◌+◌, length, drop}
use Rattle.set_model.specs.Control.{Generation}
use Rattle.rule_chain.specs.Judged.{fits_rule, walk, decision_of, DecideNothing}
use Rattle.rule_chain.proofs.chains.Chains.+walk.Given as goal

-- jumps lead to earlier chains alone
abbrev pub decreases-walk : goal.decreases-walk
decreases-walk g l = l.chain

-- the chain decides what the rules decide that are left
abbrev pub invariant-rules : goal.invariant-rules
invariant-rules g l = record {
  same : g.L.Lookups.state l.lookups ≡ g.L.Lookups.state l.initial.lookups;
  size : length l.passed ≡ 4;
  number : l.number ≡ l.first + l.rule-index;
  ahead : (x : Generation) → g.L.Lookups.looks_in (g.L.Lookups.state l.lookups) x → decision_of l.self x l.packet l.chain ≡ walk (fits_rule l.self.schema x l.packet) (decision_of l.self x l.packet) l.number (drop l.rule-index l.rules);
  passed : (x : Generation) → g.L.Lookups.looks_in (g.L.Lookups.state l.lookups) x → DecideNothing l.self x l.packet l.passed;
}
