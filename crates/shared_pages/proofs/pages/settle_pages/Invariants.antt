use Rattle.std.proofs.Common.{◌≡◌, map, vec_capacity}
use Rattle.shared_pages.specs.Paged.{AreCommon}
use Rattle.shared_pages.proofs.pages.settle_pages.Given as goal

abbrev pub invariant-pages : goal.invariant-pages
invariant-pages g l = record {
  items : map (λ page. page.items) l.pages.items ≡ map (λ page. page.items) l.initial.pages.items;
  room : vec_capacity l.pages ≡ vec_capacity l.initial.pages;
  common : AreCommon l.k l.pages.items;
}
