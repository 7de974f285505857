use Rattle.std.proofs.Common.{◌-◌, ◌≤◌, length}
use Rattle.set_report.specs.DumpText.{runs_from, runs_text}
use Rattle.set_report.specs.DumpBuckets.{bitmaps_of}
use Rattle.set_report.proofs.Leaves.{Leaves}
use Rattle.set_report.proofs.dump.buckets.write_runs.Given as goal

-- the lines of the buckets so far are written, and runs end there
abbrev pub invariant-runs : goal.invariant-runs
invariant-runs l = record {
  within : l.from ≤ length l.rows;
  so_far : Leaves l.initial.out.items l.out.items (runs_text l.g (runs_from 0 (bitmaps_of l.rows 0 (length l.rows)))) (runs_text l.g (runs_from l.from (bitmaps_of l.rows l.from (length l.rows - l.from))));
}

abbrev pub decreases-runs : goal.decreases-runs
decreases-runs l = length l.rows - l.from
