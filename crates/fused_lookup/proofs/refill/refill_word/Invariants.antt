use Rattle.std.proofs.Common.{◌≡◌, ◌+◌, ◌-◌, ◌*◌, ◌≤◌, Bool, List, length}
use Rattle.fused_lookup.specs.Words.{IsWordOf}
use Rattle.fused_lookup.specs.Filled.{IsFilled}
use Rattle.fused_lookup.specs.Window.{IsWindow}
use Rattle.fused_lookup.proofs.refill.refill_word.Given as goal

abbrev pub invariant-runs : goal.invariant-runs
invariant-runs l = record {
  low : l.from ≤ 64;
  filled : (row : List Bool) → length row ≡ length l.spans.items → IsWordOf row l.i l.word → IsFilled l.spans.items row (64 * l.i) l.fn.next.bits → IsFilled l.spans.items row (64 * l.i + l.from) l.next.bits;
  window : IsWindow l.next.bits l.window;
  len : length l.next.bits ≡ length l.fn.next.bits;
  spare : l.next.spare ≡ l.fn.next.spare;
}

abbrev pub decreases-runs : goal.decreases-runs
decreases-runs l = 64 - l.from
