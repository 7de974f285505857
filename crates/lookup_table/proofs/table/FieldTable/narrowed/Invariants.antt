use Rattle.std.proofs.Common.{◌*◌, ◌/◌}
use Rattle.lookup_table.proofs.NarrowLaws.{IsNarrow}
use Rattle.lookup_table.specs.Lines.{OwnsPlaces}
use Rattle.lookup_table.proofs.WideLaws.{Made}
use Rattle.lookup_table.proofs.table.FieldTable.narrowed.Given as goal

abbrev pub invariant-rows : goal.invariant-rows
invariant-rows l = record {
  made : Made (IsNarrow l.self.buckets.rows l.self.rules) (l.self.bits / 4 * 16) l.self.rules l.j l.buckets.rows;
  own : OwnsPlaces 0 l.self.rules l.buckets.own;
}
