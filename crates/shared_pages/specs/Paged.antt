-- A list in pages.
use Rattle.std.specs.Prelude.{◌≡◌, ℕ, ◌+◌, ◌*◌, ◌<◌, ◌≤◌, List, ◌++◌, Bool, true, false, length, get_or, map, All, flat_map}

-- what a contract sees of a page: its items, and whether they are this page's alone
pub record PageOf (X : Type 0) : Type 0 where
  pub items : List X
  pub own : Bool

-- the items of the pages, one page after another, and then the items of the last page
abbrev pub items_in : {X : Type 0} → List (PageOf X) → List X → List X
items_in pages last = flat_map (λ page. page.items) pages ++ last

-- for each page, whether it is this list's alone
abbrev pub owns_of : {X : Type 0} → List (PageOf X) → List Bool
owns_of pages = map (λ page. page.own) pages

-- The pages from this one on are the list's own.
pub record AreOwn {X : Type 0} (from : ℕ) (pages : List (PageOf X)) : Type 0 where
  pub own : (k : ℕ) → from ≤ k → get_or (owns_of pages) k true ≡ true

-- The first n pages are common.
pub record AreCommon {X : Type 0} (n : ℕ) (pages : List (PageOf X)) : Type 0 where
  pub common : (k : ℕ) → k < n → get_or (owns_of pages) k false ≡ false

-- a whole page
pub record IsWhole {X : Type 0} (page : PageOf X) : Type 0 where
  pub whole : length page.items ≡ 512

-- Each page before the last one is whole. The last page has at most 512 items, and is empty only in
-- an empty list. `len` is the number of all items.
pub record IsPaged {X : Type 0} (pages : List (PageOf X)) (last : List X) (len : ℕ) : Type 0 where
  pub whole : All IsWhole pages
  pub within : length last ≤ 512
  pub filled : length last ≡ 0 → length pages ≡ 0
  pub counted : len ≡ 512 * length pages + length last
