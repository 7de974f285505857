use Rattle.std.proofs.Common.{◌≡◌, replicate, vec_capacity}
use Rattle.shared_pages.proofs.page.Page.filled.Given as goal

abbrev pub invariant-items : goal.invariant-items
invariant-items g l = record {
  items : l.items.items ≡ replicate l.counter l.item;
  room : vec_capacity l.items ≡ vec_capacity l.initial.items;
}
