use Rattle.std.proofs.Common.{◌≡◌, vec_capacity}
use Rattle.shared_pages.specs.Paged.{owns_of}
use Rattle.lookup_table.specs.Summary.{ArePages, AreRenewed}
use Rattle.lookup_table.proofs.tops.renew_tops.Given as goal

abbrev pub invariant-pages : goal.invariant-pages
invariant-pages l = record {
  tops : ArePages l.bits l.tops.items;
  renewed : AreRenewed l.from l.p l.pages l.initial.tops.items l.tops.items;
  room : vec_capacity l.tops ≡ vec_capacity l.initial.tops;
  own : owns_of l.tops.items ≡ owns_of l.initial.tops.items;
}
