use Rattle.std.proofs.Common.{◌≡◌, ◌-◌, ◌*◌, List, length}
use Rattle.set_model.specs.declared.block.Block.{Block}
use Rattle.set_model.specs.Blocks.{holds_value}
use Rattle.lookup_table.specs.Rules.{Stands}
use Rattle.set_tables.specs.Rows.{matched}
use Rattle.fused_lookup.specs.Filled.{IsFilled}
use Rattle.fused_lookup.specs.Window.{IsWindow}
use Rattle.fused_lookup.proofs.MatchLaws.{IsTaken}
use Rattle.fused_lookup.proofs.later_field.refill_from.Given as goal

abbrev pub invariant-words : goal.invariant-words
invariant-words l = record {
  taken : IsTaken l.from l.fn.row.bits l.row.bits;
  filled : (blocks : List Block) → Stands l.table blocks → IsFilled l.spans.items (matched (λ rule. holds_value rule l.value) blocks l.fn.row.bits) (64 * l.from) l.next.bits;
  window : IsWindow l.next.bits l.reached;
  spare : l.row.spare ≡ l.fn.row.spare;
  next_len : length l.next.bits ≡ length l.fn.next.bits;
  next_spare : l.next.spare ≡ l.fn.next.spare;
}

abbrev pub decreases-words : goal.decreases-words
decreases-words l = l.window.end - l.from
