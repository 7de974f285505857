use Rattle.std.proofs.Common.{◌≡◌, ◌≤◌, length, vec_capacity}
use Rattle.lookup_table.specs.Summary.{IsSummed}
use Rattle.lookup_table.proofs.summary.add_pages.Given as goal

abbrev pub invariant-pages : goal.invariant-pages
invariant-pages l = record {
  long : length l.initial.pages.items ≤ l.n → length l.pages.items ≡ l.p;
  full : vec_capacity l.pages ≡ length l.pages.items;
  summed : IsSummed 64 l.width l.bits l.rules l.buckets.rows l.pages.items;
}
