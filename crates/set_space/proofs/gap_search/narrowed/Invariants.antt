use Rattle.set_space.specs.KeptSet.{IsBetween}
use Rattle.std.proofs.Common.{◌-◌}
use Rattle.set_space.proofs.gap_search.narrowed.Given as goal

abbrev pub invariant-halves : goal.invariant-halves
invariant-halves l = IsBetween l.lazy.passed l.lazy.image l.i l.low l.high

abbrev pub decreases-halves : goal.decreases-halves
decreases-halves l = l.high - l.low
