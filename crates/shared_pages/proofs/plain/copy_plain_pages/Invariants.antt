use Rattle.std.proofs.Common.{◌≡◌, take, vec_capacity}
use Rattle.shared_pages.proofs.plain.copy_plain_pages.Given as goal

abbrev pub invariant-pages : goal.invariant-pages
invariant-pages g l = record {
  pages : l.others.items ≡ take l.page-index l.pages;
  room : vec_capacity l.others ≡ vec_capacity l.initial.others;
}
