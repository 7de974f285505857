use Rattle.std.proofs.Common.{◌≡◌}
use Rattle.lookup_table.specs.Rows.{IsBlockMarked, KeepsCells}
use Rattle.lookup_table.proofs.marks.mark_block.Given as goal

abbrev pub invariant-groups : goal.invariant-groups
invariant-groups l = record {
  marked : IsBlockMarked l.width l.bits l.g l.block l.r l.initial.buckets.rows l.buckets.rows;
  kept : KeepsCells l.r l.initial.buckets.rows l.buckets.rows;
  own : l.buckets.own ≡ l.initial.buckets.own;
}
