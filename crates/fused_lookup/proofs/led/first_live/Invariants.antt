use Rattle.std.proofs.Common.{◌≡◌, ◌+◌, ◌-◌, ◌*◌, ◌≤◌, Bool, List, length}
use Rattle.fused_lookup.specs.Words.{IsWordOf}
use Rattle.fused_lookup.specs.Led.{LeadsNowhere}
use Rattle.fused_lookup.proofs.led.first_live.Given as goal

abbrev pub invariant-rules : goal.invariant-rules
invariant-rules l = record {
  low : l.from ≤ 64;
  nowhere : (row : List Bool) → length row ≡ length l.ends.items → IsWordOf row l.i l.word → LeadsNowhere l.ends.items row l.now (64 * l.i) → LeadsNowhere l.ends.items row l.now (64 * l.i + l.from);
}

abbrev pub decreases-rules : goal.decreases-rules
decreases-rules l = 64 - l.from
