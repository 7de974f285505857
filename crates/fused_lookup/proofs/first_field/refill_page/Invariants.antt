use Rattle.std.proofs.Common.{◌≡◌, ◌+◌, ◌-◌, ◌*◌, ◌≤◌, length}
use Rattle.set_model.specs.Blocks.{holds_value}
use Rattle.fused_lookup.specs.Filled.{RefillsWords}
use Rattle.fused_lookup.specs.Window.{IsWindow}
use Rattle.fused_lookup.proofs.first_field.refill_page.Given as goal

abbrev pub invariant-words : goal.invariant-words
invariant-words l = record {
  low : l.from ≤ 64;
  filled : RefillsWords l.table l.spans.items (λ rule. holds_value rule l.probe.value) (64 * l.p) (64 * l.p + l.from) l.fn.next.bits l.next.bits;
  window : IsWindow l.next.bits l.window;
  len : length l.next.bits ≡ length l.fn.next.bits;
  spare : l.next.spare ≡ l.fn.next.spare;
}

abbrev pub decreases-words : goal.decreases-words
decreases-words l = 64 - l.from
