use Rattle.std.proofs.Common.{◌≡◌, take, vec_capacity}
use Rattle.shared_pages.proofs.page.copied_singly.Given as goal

abbrev pub invariant-items : goal.invariant-items
invariant-items g l = record {
  items : l.all.items ≡ take l.item-index l.items;
  room : vec_capacity l.all ≡ vec_capacity l.initial.all;
}
