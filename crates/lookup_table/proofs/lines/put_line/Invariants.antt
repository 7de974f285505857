use Rattle.std.proofs.Common.{◌≡◌, vec_capacity}
use Rattle.lookup_table.proofs.WriteLaws.{LinePut}
use Rattle.lookup_table.proofs.lines.put_line.Given as goal

abbrev pub invariant-words : goal.invariant-words
invariant-words l = record {
  put : LinePut l.count l.j l.i l.row.bits l.initial.pages.items l.pages.items;
  room : vec_capacity l.pages ≡ vec_capacity l.initial.pages;
}
