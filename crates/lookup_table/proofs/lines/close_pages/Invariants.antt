use Rattle.std.proofs.Common.{◌≡◌, vec_capacity}
use Rattle.lookup_table.specs.Lines.{AreClosed}
use Rattle.lookup_table.proofs.lines.close_pages.Given as goal

abbrev pub invariant-words : goal.invariant-words
invariant-words l = record {
  closed : AreClosed l.count l.first l.n l.p l.x l.fn.pages.items l.pages.items;
  room : vec_capacity l.pages ≡ vec_capacity l.fn.pages;
}

abbrev pub invariant-pages : goal.invariant-pages
invariant-pages l = record {
  closed : AreClosed l.count l.first l.n l.p 0 l.fn.pages.items l.pages.items;
  room : vec_capacity l.pages ≡ vec_capacity l.fn.pages;
}
