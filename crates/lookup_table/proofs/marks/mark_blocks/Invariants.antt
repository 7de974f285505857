use Rattle.std.proofs.Common.{◌≡◌, take}
use Rattle.lookup_table.specs.Rows.{IsSameSize, KeepsCells, HasOnly, MarksRules}
use Rattle.lookup_table.proofs.marks.mark_blocks.Given as goal

abbrev pub invariant-rules : goal.invariant-rules
invariant-rules l = record {
  size : IsSameSize l.initial.buckets.rows l.buckets.rows;
  kept : KeepsCells l.first l.initial.buckets.rows l.buckets.rows;
  only : HasOnly l.width l.bits l.first l.i l.blocks l.buckets.rows;
  rules : MarksRules l.width l.bits l.first l.initial.buckets.rows l.buckets.rows (take l.i l.blocks);
  own : l.buckets.own ≡ l.initial.buckets.own;
}
