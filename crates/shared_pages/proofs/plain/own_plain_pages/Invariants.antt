use Rattle.std.proofs.Common.{◌≡◌, ◌<◌, ◌≤◌, ℕ, map, get_or, true, vec_capacity}
use Rattle.shared_pages.specs.Paged.{owns_of}
use Rattle.shared_pages.proofs.plain.own_plain_pages.Given as goal

abbrev pub invariant-pages : goal.invariant-pages
invariant-pages g l = record {
  items : map (λ page. page.items) l.pages.items ≡ map (λ page. page.items) l.initial.pages.items;
  own : (j : ℕ) → l.from ≤ j → j < l.k → get_or (owns_of l.pages.items) j true ≡ true;
  room : vec_capacity l.pages ≡ vec_capacity l.initial.pages;
  kept : (j : ℕ) → get_or (owns_of l.initial.pages.items) j true ≡ true → get_or (owns_of l.pages.items) j true ≡ true;
}
