use Rattle.std.proofs.Common.{◌≡◌, ◌+◌, ◌-◌, ◌*◌, ◌≤◌, Bool, List, length}
use Rattle.fused_lookup.specs.Words.{IsWordOf, small_row}
use Rattle.fused_lookup.specs.Filled.{IsFilled}
use Rattle.fused_lookup.proofs.small.fill_small.Given as goal

abbrev pub invariant-runs : goal.invariant-runs
invariant-runs l = record {
  low : l.from ≤ 64;
  filled : (row : List Bool) → length row ≡ length l.spans.items → IsWordOf row l.i l.word → IsFilled l.spans.items row (64 * l.i) (small_row l.fn.next) → IsFilled l.spans.items row (64 * l.i + l.from) (small_row l.row);
}

abbrev pub decreases-runs : goal.decreases-runs
decreases-runs l = 64 - l.from
