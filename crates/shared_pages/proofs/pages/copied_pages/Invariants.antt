use Rattle.std.proofs.Common.{◌≡◌, map, take}
use Rattle.shared_pages.proofs.pages.copied_pages.Given as goal

abbrev pub invariant-pages : goal.invariant-pages
invariant-pages g l = map (λ page. page.items) l.others.items ≡ map (λ page. page.items) (take l.page-index l.pages)
