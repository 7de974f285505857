use Rattle.std.proofs.Common.{◌≡◌, ◌&&◌}
use Rattle.lookup_table.specs.Table.{bucket_at}
use Rattle.lookup_table.proofs.WriteLaws.{Merged}
use Rattle.lookup_table.proofs.lines.Lines.and_into.Given as goal

abbrev pub invariant-words : goal.invariant-words
invariant-words l = record {
  merged : Merged (λ p q. p && q) (bucket_at l.self.rows l.j).bits l.initial.row.bits l.i l.row;
  spare : l.row.spare ≡ l.initial.row.spare;
}
