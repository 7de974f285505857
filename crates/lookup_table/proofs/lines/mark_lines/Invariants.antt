use Rattle.std.proofs.Common.{◌≡◌, true}
use Rattle.lookup_table.specs.Lines.{AreMarked}
use Rattle.lookup_table.proofs.lines.mark_lines.Given as goal

abbrev pub invariant-lines : goal.invariant-lines
invariant-lines l = record {
  own : l.page.own ≡ true;
  marked : AreMarked l.from l.j l.w l.k l.initial.page.items l.page.items;
}
