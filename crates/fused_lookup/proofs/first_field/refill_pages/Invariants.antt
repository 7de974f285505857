use Rattle.std.proofs.Common.{◌≡◌, ◌+◌, ◌-◌, ◌*◌, ◌≤◌, length}
use Rattle.set_model.specs.Blocks.{holds_value}
use Rattle.fused_lookup.specs.Filled.{RefillsWords}
use Rattle.fused_lookup.specs.Window.{IsWindow}
use Rattle.fused_lookup.proofs.first_field.refill_pages.Given as goal

abbrev pub invariant-pages : goal.invariant-pages
invariant-pages l = record {
  low : l.from ≤ 64;
  filled : RefillsWords l.table l.spans.items (λ rule. holds_value rule l.probe.value) (64 * (64 * l.q)) (64 * (64 * l.q + l.from)) l.fn.next.bits l.next.bits;
  window : IsWindow l.next.bits l.window;
  len : length l.next.bits ≡ length l.fn.next.bits;
  spare : l.next.spare ≡ l.fn.next.spare;
}

abbrev pub decreases-pages : goal.decreases-pages
decreases-pages l = 64 - l.from
