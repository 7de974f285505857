use Rattle.std.proofs.Common.{◌≡◌, vec_capacity}
use Rattle.shared_pages.specs.Paged.{owns_of}
use Rattle.lookup_table.specs.Summary.{ArePages, KeepsMarks, AreRulesMarked}
use Rattle.lookup_table.proofs.summary.mark_added.Given as goal

abbrev pub invariant-rules : goal.invariant-rules
invariant-rules l = record {
  kept : KeepsMarks l.initial.pages.items l.pages.items;
  pages : ArePages l.bits l.pages.items;
  room : vec_capacity l.pages ≡ vec_capacity l.initial.pages;
  own : owns_of l.pages.items ≡ owns_of l.initial.pages.items;
  marked : AreRulesMarked l.unit l.bits l.first l.i l.added l.pages.items;
}
