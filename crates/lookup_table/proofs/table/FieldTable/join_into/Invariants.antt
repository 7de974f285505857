use Rattle.std.proofs.Common.{◌≡◌}
use Rattle.lookup_table.specs.Rows.{IsJoined}
use Rattle.lookup_table.proofs.table.FieldTable.join_into.Given as goal

abbrev pub invariant-rows : goal.invariant-rows
invariant-rows l = record {
  joined : IsJoined l.self.buckets.rows l.start l.step l.i l.self.rules l.row;
  spare : l.row.spare ≡ l.initial.row.spare;
}
