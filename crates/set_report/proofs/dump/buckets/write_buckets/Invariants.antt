use Rattle.set_report.specs.DumpBuckets.{buckets_text, all_buckets_text}
use Rattle.set_report.proofs.Leaves.{LeavesFrom}
use Rattle.set_report.proofs.dump.buckets.write_buckets.Given as goal

-- the groups so far are written
abbrev pub invariant-groups : goal.invariant-groups
invariant-groups l = LeavesFrom (buckets_text l.table) l.g l.g-end l.initial.out.items l.out.items (all_buckets_text l.table)
