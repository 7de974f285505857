use Rattle.std.proofs.Common.{◌+◌, ◌-◌, ◌<◌, ◌≤◌}
use Rattle.reader_speed.proofs.measure_all.Given as goal

abbrev pub invariant-loop-threads : goal.invariant-loop-threads
invariant-loop-threads g l = (0 < l.threads) × (l.most ≤ 16)

abbrev pub decreases-loop-threads : goal.decreases-loop-threads
decreases-loop-threads g l = l.most + 1 - l.threads
