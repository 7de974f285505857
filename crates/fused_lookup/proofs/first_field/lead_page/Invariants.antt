use Rattle.std.proofs.Common.{◌+◌, ◌-◌, ◌*◌, ◌≤◌, None}
use Rattle.set_model.specs.Blocks.{holds_value}
use Rattle.fused_lookup.specs.Led.{LeadsWords}
use Rattle.fused_lookup.proofs.first_field.lead_page.Given as goal

abbrev pub invariant-words : goal.invariant-words
invariant-words l = record {
  low : l.from ≤ 64;
  nowhere : LeadsWords l.table l.ends.items (λ rule. holds_value rule l.probe.value) (64 * l.p) (64 * l.p + l.from) l.now None;
}

abbrev pub decreases-words : goal.decreases-words
decreases-words l = 64 - l.from
