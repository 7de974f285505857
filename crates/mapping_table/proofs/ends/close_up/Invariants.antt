use Rattle.std.proofs.Common.{◌≡◌, ◌+◌}
use Rattle.set_tables.specs.Rows.{lowered_place}
use Rattle.mapping_table.specs.Spared.{IsMoved}
use Rattle.mapping_table.proofs.ends.close_up.Given as goal

abbrev pub invariant-ends : goal.invariant-ends
invariant-ends l = record {
  items : IsMoved lowered_place l.first l.n (l.i + l.n) l.fn.ends.items l.ends.items;
  spare : l.ends.spare ≡ l.fn.ends.spare;
  own : l.ends.own ≡ l.fn.ends.own;
  taken : l.ends.taken ≡ l.fn.ends.taken;
}
