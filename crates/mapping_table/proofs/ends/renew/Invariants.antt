use Rattle.std.proofs.Common.{◌≡◌}
use Rattle.set_tables.specs.Rows.{end_renewed}
use Rattle.mapping_table.specs.Spared.{IsMoved}
use Rattle.mapping_table.proofs.ends.renew.Given as goal

abbrev pub invariant-ends : goal.invariant-ends
invariant-ends l = record {
  items : IsMoved (end_renewed l.expiry) l.first 0 l.i l.fn.ends.items l.ends.items;
  spare : l.ends.spare ≡ l.fn.ends.spare;
  own : l.ends.own ≡ l.fn.ends.own;
  taken : l.ends.taken ≡ l.fn.ends.taken;
}
