use Rattle.set_report.specs.DumpBuckets.{AreRowsFrom}
use Rattle.set_report.proofs.dump.buckets.rows_from.Given as goal

abbrev pub invariant-rows : goal.invariant-rows
invariant-rows l = AreRowsFrom l.buckets.rows l.first l.v l.rows.items
