use Rattle.std.proofs.Common.{◌≡◌, ◌*◌, length}
use Rattle.set_model.specs.Blocks.{holds_value}
use Rattle.fused_lookup.specs.Filled.{RefillsWords}
use Rattle.fused_lookup.specs.Window.{IsWindow}
use Rattle.fused_lookup.proofs.first_field.refill_from_first.Given as goal

abbrev pub invariant-pages : goal.invariant-pages
invariant-pages l = record {
  filled : RefillsWords l.table l.spans.items (λ rule. holds_value rule l.probe.value) 0 (64 * l.p) l.fn.next.bits l.next.bits;
  window : IsWindow l.next.bits l.reached;
  len : length l.next.bits ≡ length l.fn.next.bits;
  spare : l.next.spare ≡ l.fn.next.spare;
}

abbrev pub invariant-tops : goal.invariant-tops
invariant-tops l = record {
  filled : RefillsWords l.table l.spans.items (λ rule. holds_value rule l.probe.value) 0 (64 * (64 * l.q)) l.fn.next.bits l.next.bits;
  window : IsWindow l.next.bits l.reached;
  len : length l.next.bits ≡ length l.fn.next.bits;
  spare : l.next.spare ≡ l.fn.next.spare;
}
