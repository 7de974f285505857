use Rattle.std.proofs.Common.{◌+◌, ◌-◌, ◌*◌, ◌≤◌, None}
use Rattle.set_model.specs.Blocks.{holds_value}
use Rattle.fused_lookup.specs.Led.{LeadsWords}
use Rattle.fused_lookup.proofs.first_field.lead_pages.Given as goal

abbrev pub invariant-pages : goal.invariant-pages
invariant-pages l = record {
  low : l.from ≤ 64;
  nowhere : LeadsWords l.table l.ends.items (λ rule. holds_value rule l.probe.value) (64 * (64 * l.q)) (64 * (64 * l.q + l.from)) l.now None;
}

abbrev pub decreases-pages : goal.decreases-pages
decreases-pages l = 64 - l.from
