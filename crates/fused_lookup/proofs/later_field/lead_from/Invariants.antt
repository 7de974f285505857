use Rattle.std.proofs.Common.{◌≡◌, ◌-◌, ◌*◌, List}
use Rattle.set_model.specs.declared.block.Block.{Block}
use Rattle.set_model.specs.Blocks.{holds_value}
use Rattle.lookup_table.specs.Rules.{Stands}
use Rattle.set_tables.specs.Rows.{matched}
use Rattle.fused_lookup.specs.Led.{IsLed}
use Rattle.fused_lookup.proofs.MatchLaws.{IsTaken}
use Rattle.fused_lookup.proofs.later_field.lead_from.Given as goal

abbrev pub invariant-words : goal.invariant-words
invariant-words l = record {
  taken : IsTaken l.from l.fn.row.bits l.row.bits;
  led : (blocks : List Block) → Stands l.table blocks → IsLed l.ends.items (matched (λ rule. holds_value rule l.value) blocks l.fn.row.bits) l.now (64 * l.from) l.found;
  spare : l.row.spare ≡ l.fn.row.spare;
}

abbrev pub decreases-words : goal.decreases-words
decreases-words l = l.window.end - l.from
