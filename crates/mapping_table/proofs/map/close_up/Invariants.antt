use Rattle.std.proofs.Common.{◌≡◌, ◌+◌}
use Rattle.set_tables.specs.Rows.{lowered}
use Rattle.mapping_table.specs.Spared.{IsMoved}
use Rattle.mapping_table.proofs.map.close_up.Given as goal

abbrev pub invariant-spans : goal.invariant-spans
invariant-spans l = record {
  items : IsMoved (lowered l.k) l.first l.n (l.i + l.n) l.fn.spans.items l.spans.items;
  spare : l.spans.spare ≡ l.fn.spans.spare;
  own : l.spans.own ≡ l.fn.spans.own;
  taken : l.spans.taken ≡ l.fn.spans.taken;
}
