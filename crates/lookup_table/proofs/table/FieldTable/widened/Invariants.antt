use Rattle.std.proofs.Common.{◌*◌, ◌/◌}
use Rattle.lookup_table.specs.Rows.{IsWide}
use Rattle.lookup_table.specs.Lines.{OwnsPlaces}
use Rattle.lookup_table.proofs.WideLaws.{Made}
use Rattle.lookup_table.proofs.table.FieldTable.widened.Given as goal

abbrev pub invariant-rows : goal.invariant-rows
invariant-rows l = record {
  made : Made (IsWide l.self.buckets.rows l.self.rules) (l.self.bits / 8 * 256) l.self.rules l.j l.buckets.rows;
  own : OwnsPlaces 0 l.self.rules l.buckets.own;
}
