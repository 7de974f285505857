-- Buckets in pages of 512 rules that copies share.
use Rattle.std.specs.Prelude.{◌≡◌, ℕ, ◌+◌, ◌-◌, ◌*◌, ◌/◌, ◌%◌, ◌^◌, ◌<◌, ◌≤◌, Bool, true, false, cond, ◌&&◌, ◌||◌, ◌==◌, nat_le, List, [], length, get_or, map, slice_index, All}
use Rattle.std.specs.List.{range_with_len}
use Rattle.bit_rows.specs.Row.{Row, at, bit, lies}
use Rattle.shared_pages.specs.Paged.{PageOf, owns_of}
use Rattle.lookup_table.specs.Table.{bucket_at, cell}

-- what a contract sees: the rows, and for each page whether it is the table's own
pub record Lined : Type 0 where
  pub rows : List Row
  pub own : List Bool

-- The pages of the places from `from` up to `to` are the table's own.
pub record OwnsPlaces (from to : ℕ) (own : List Bool) : Type 0 where
  pub each : (r : ℕ) → from ≤ r → r < to → get_or own (r / 512) true ≡ true

-- There are rows, and they have room for place r.
pub record IsWithinRoom (r : ℕ) (rows : List Row) : Type 0 where
  pub room : r < length (bucket_at rows 0).bits + (bucket_at rows 0).spare

-- No page is the table's own.
pub record OwnsNoPage (own : List Bool) : Type 0 where
  pub each : (p : ℕ) → p < length own → get_or own p false ≡ false

-- The words of page p: eight for each row.
pub record IsPage (rows : List Row) (p : ℕ) (words : List ℕ) : Type 0 where
  pub long : length words ≡ length rows * 8
  pub bits : (j w k : ℕ) → j < length rows → w < 8 → k < 64 → bit (slice_index words (j * 8 + w)) k ≡ cell rows j (512 * p + 64 * w + k)

-- ---- the rows that pages keep

-- the words of page p, or none past the end
abbrev pub words_at : List (PageOf ℕ) → ℕ → List ℕ
words_at pages p = (get_or pages p (record { items = []; own = true })).items

-- The pages from page `from` up to page `to` are the table's own.
pub record AreOwned (from to : ℕ) (pages : List (PageOf ℕ)) : Type 0 where
  pub own : (p : ℕ) → from ≤ p → p < to → get_or (owns_of pages) p true ≡ true

-- bit r of row j. A page has a line of eight words for each row.
unfoldable pub line_bit : List (PageOf ℕ) → ℕ → ℕ → Bool
line_bit pages j r = bit (slice_index (words_at pages (r / 512)) (j * 8 + r % 512 / 64)) (r % 64)

unfoldable pub row_in : List (PageOf ℕ) → ℕ → ℕ → Row
row_in pages len j = record { bits = map (line_bit pages j) (range_with_len 0 len); spare = 512 * length pages - len }

unfoldable pub rows_of : List (PageOf ℕ) → ℕ → ℕ → List Row
rows_of pages len count = map (row_in pages len) (range_with_len 0 count)

-- a line of eight words for each row
pub record IsPageOf (count : ℕ) (page : PageOf ℕ) : Type 0 where
  pub long : length page.items ≡ count * 8

-- The pages keep `count` rows of `len` places, and no bit past these places is set.
pub record AreLines (count len : ℕ) (pages : List (PageOf ℕ)) : Type 0 where
  pub each : All (IsPageOf count) pages
  pub within : len ≤ 512 * length pages
  pub small : 512 * length pages < 2 ^ 32
  pub few : count < 2 ^ 20
  pub past : (j r : ℕ) → j < count → len ≤ r → line_bit pages j r ≡ false

-- As `AreLines`, of a list of pages whose capacity is exactly its length.
pub record AreKept (count len : ℕ) (pages : List (PageOf ℕ)) (capacity : ℕ) : Type 0 where
  pub lines : AreLines count len pages
  pub full : capacity ≡ length pages

-- each page has line j
pub record HasLine (j : ℕ) (pages : List (PageOf ℕ)) : Type 0 where
  pub line : (p : ℕ) → p < length pages → j * 8 + 8 ≤ length (words_at pages p)

-- ---- changes of pages

-- the same words, and maybe more words that are 0
pub record IsMore (count : ℕ) (old new : List (PageOf ℕ)) : Type 0 where
  pub words : (p x : ℕ) → slice_index (words_at new p) x ≡ slice_index (words_at old p) x
  pub long : length old ≤ length new
  pub each : All (IsPageOf count) old → All (IsPageOf count) new

-- bit k of word w of the lines from `from` up to `to` is set too
pub record AreMarked (from to w k : ℕ) (old new : List ℕ) : Type 0 where
  pub long : length new ≡ length old
  pub bits : (x m : ℕ) → m < 64 → bit (slice_index new x) m ≡ (bit (slice_index old x) m || ((lies from to (x / 8) && x % 8 == w) && m == k))

-- as many pages of the same sizes, and each keeps its owner
pub record IsAlike (old new : List (PageOf ℕ)) : Type 0 where
  pub long : length new ≡ length old
  pub sizes : (p : ℕ) → length (words_at new p) ≡ length (words_at old p)
  pub own : owns_of new ≡ owns_of old

-- word x of page p is overwritten
pub record IsWordWritten (p x word : ℕ) (old new : List (PageOf ℕ)) : Type 0 where
  pub alike : IsAlike old new
  pub here : slice_index (words_at new p) x ≡ word
  pub others : (q y : ℕ) → (q ≡ p → y ≡ x → ⊥) → slice_index (words_at new q) y ≡ slice_index (words_at old q) y

-- line j has these bits, and the other lines are unchanged
pub record IsLinePut (count j : ℕ) (bits : List Bool) (old new : List (PageOf ℕ)) : Type 0 where
  pub alike : IsAlike old new
  pub here : (r : ℕ) → r < length bits → line_bit new j r ≡ at bits r
  pub rest : (r : ℕ) → length bits ≤ r → line_bit old j r ≡ false → line_bit new j r ≡ false
  pub others : (i r : ℕ) → i < count → (i ≡ j → ⊥) → line_bit new i r ≡ line_bit old i r

-- bit r of row j after the n places from `first` on are removed
abbrev pub closed_bit : List (PageOf ℕ) → ℕ → ℕ → ℕ → ℕ → Bool
closed_bit pages first n j r = cond (nat_le first r) (line_bit pages j (r + n)) (line_bit pages j r)

-- Word x of page p has what is left there without the n places from `first` on. The other words are
-- unchanged.
pub record IsWordClosed (first n p x : ℕ) (old new : List (PageOf ℕ)) : Type 0 where
  pub alike : IsAlike old new
  pub here : (k : ℕ) → k < 64 → bit (slice_index (words_at new p) x) k ≡ closed_bit old first n (x / 8) (512 * p + 64 * (x % 8) + k)
  pub others : (q y : ℕ) → (q ≡ p → y ≡ x → ⊥) → slice_index (words_at new q) y ≡ slice_index (words_at old q) y

-- The same holds of all words of the pages before page p and of the first x words of page p. The
-- others are unchanged.
pub record AreClosed (count first n p x : ℕ) (old new : List (PageOf ℕ)) : Type 0 where
  pub alike : IsAlike old new
  pub before : (j r : ℕ) → j < count → r / 512 < p → line_bit new j r ≡ closed_bit old first n j r
  pub here : (j r : ℕ) → j < count → r / 512 ≡ p → j * 8 + r % 512 / 64 < x → line_bit new j r ≡ closed_bit old first n j r
  pub rest : (y : ℕ) → x ≤ y → slice_index (words_at new p) y ≡ slice_index (words_at old p) y
  pub behind : (q y : ℕ) → p < q → slice_index (words_at new q) y ≡ slice_index (words_at old q) y
