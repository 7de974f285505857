use Rattle.std.proofs.Common.{◌≡◌, ◌≤◌, length, vec_capacity}
use Rattle.lookup_table.specs.Lines.{IsMore, AreOwned}
use Rattle.lookup_table.proofs.lines.add_pages.Given as goal

abbrev pub invariant-pages : goal.invariant-pages
invariant-pages l = record {
  full : vec_capacity l.pages ≡ length l.pages.items;
  more : IsMore l.count l.initial.pages.items l.pages.items;
  long : length l.pages.items ≡ l.p;
  none : l.n ≤ length l.initial.pages.items → l.p ≡ length l.initial.pages.items;
  own : AreOwned (length l.initial.pages.items) l.p l.pages.items;
}
