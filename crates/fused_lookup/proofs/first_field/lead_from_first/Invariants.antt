use Rattle.std.proofs.Common.{◌*◌, None}
use Rattle.set_model.specs.Blocks.{holds_value}
use Rattle.fused_lookup.specs.Led.{LeadsWords}
use Rattle.fused_lookup.proofs.first_field.lead_from_first.Given as goal

abbrev pub invariant-pages : goal.invariant-pages
invariant-pages l = LeadsWords l.table l.ends.items (λ rule. holds_value rule l.probe.value) 0 (64 * l.p) l.now None

abbrev pub invariant-tops : goal.invariant-tops
invariant-tops l = LeadsWords l.table l.ends.items (λ rule. holds_value rule l.probe.value) 0 (64 * (64 * l.q)) l.now None
