use Rattle.std.proofs.Common.{◌≡◌, ◌*◌, vec_capacity}
use Rattle.shared_pages.specs.Paged.{owns_of}
use Rattle.lookup_table.specs.Summary.{IsSummed}
use Rattle.lookup_table.proofs.summary.renew_pages.Given as goal

abbrev pub invariant-words : goal.invariant-words
invariant-words l = record {
  summed : IsSummed 64 l.width l.bits (512 * l.q) l.buckets.rows l.pages.items;
  room : vec_capacity l.pages ≡ vec_capacity l.initial.pages;
  own : owns_of l.pages.items ≡ owns_of l.initial.pages.items;
}
