use Rattle.std.proofs.Common.{◌≡◌, true}
use Rattle.word_summary.specs.Marks.{IsPageMarked}
use Rattle.word_summary.proofs.marks.mark_page.Given as goal

abbrev pub invariant-lines : goal.invariant-lines
invariant-lines l = record {
  own : l.top.own ≡ true;
  marked : IsPageMarked l.k l.j l.lines l.initial.top.items l.top.items;
}
