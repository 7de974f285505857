use Rattle.std.proofs.Common.{◌≡◌, ◌+◌, ◌-◌, ◌*◌, ◌≤◌, ◌<◌, length}
use Rattle.set_space.specs.KeptSet.{gaps_before}
use Rattle.set_space.proofs.gap_search.gallop.Given as goal

abbrev pub invariant-steps : goal.invariant-steps
invariant-steps l = record {
  all : l.count ≡ length l.lazy.image.elements;
  few : l.low ≤ l.i + gaps_before l.lazy.passed l.lazy.image l.low;
  more : l.i + gaps_before l.lazy.passed l.lazy.image l.count < l.count;
  within : l.low < l.count;
  some : 0 < l.step;
  short : l.step ≤ 2 * l.count;
}

abbrev pub decreases-steps : goal.decreases-steps
decreases-steps l = l.count - l.low
