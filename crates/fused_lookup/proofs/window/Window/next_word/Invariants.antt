use Rattle.std.proofs.Common.{◌-◌, ◌≤◌}
use Rattle.fused_lookup.specs.Window.{AreUntouched}
use Rattle.fused_lookup.proofs.window.Window.next_word.Given as goal

abbrev pub invariant-passed : goal.invariant-passed
invariant-passed l = record {
  low : l.from ≤ l.i;
  none : AreUntouched l.self l.from l.i;
}

abbrev pub decreases-passed : goal.decreases-passed
decreases-passed l = l.self.end - l.i
