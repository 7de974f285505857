-- The summary of a table. For each byte and value it marks the words of 64 rules in which some rule
-- agrees. A top marks the pages of 64 words in the same way.
use Rattle.std.specs.Prelude.{◌≡◌, ℕ, ◌+◌, ◌*◌, ◌/◌, ◌%◌, ◌^◌, ◌<◌, ◌≤◌, Bool, true, cond, ◌&&◌, ◌==◌, List, length, slice_index}
use Rattle.set_model.specs.declared.block.Block.{Block}
use Rattle.bit_rows.specs.Row.{Row, bit}
use Rattle.field_groups.specs.Groups.{agrees}
use Rattle.shared_pages.specs.Paged.{PageOf}
use Rattle.lookup_table.specs.Lines.{words_at}
use Rattle.word_summary.specs.Marks.{IsMarkPage}
use Rattle.lookup_table.specs.Table.{bucket_place, block_at, cell}

-- The places of the buckets whose AND says which rules agree with value j % 256 of byte j / 256. In
-- groups of eight bits both are the byte's own bucket. In groups of four they are the buckets of
-- its upper and of its lower half.
abbrev pub upper_place : ℕ → ℕ → ℕ
upper_place width j = cond (width == 8) j (bucket_place 4 (2 * (j / 2 ^ 8)) (j % 2 ^ 8 / 2 ^ 4))

abbrev pub lower_place : ℕ → ℕ → ℕ
lower_place width j = cond (width == 8) j (bucket_place 4 (2 * (j / 2 ^ 8) + 1) (j % 2 ^ 8 % 2 ^ 4))

-- Rule r agrees with value j % 256 of byte j / 256.
abbrev pub agrees_at : ℕ → List Row → ℕ → ℕ → Bool
agrees_at width buckets j r = cell buckets (upper_place width j) r && cell buckets (lower_place width j) r

-- Each mark of page p is for `unit` rules. Each rule below n has its mark in each line with which
-- the rule agrees.
pub record HasMarks (unit width bits n : ℕ) (buckets : List Row) (p : ℕ) (page : List ℕ) : Type 0 where
  pub long : length page ≡ bits / 8 * 256
  pub marks : (j r : ℕ) → j < bits / 8 * 256 → r < n → r / unit / 64 ≡ p → agrees_at width buckets j r ≡ true → bit (slice_index page j) (r / unit % 64) ≡ true

-- Each page has one line for each byte and value.
pub record ArePages (bits : ℕ) (pages : List (PageOf ℕ)) : Type 0 where
  pub each : (p : ℕ) → p < length pages → IsMarkPage bits (words_at pages p)

-- Each page has the marks of the first n rules. This says nothing of rules after the last page.
pub record IsSummed (unit width bits n : ℕ) (buckets : List Row) (pages : List (PageOf ℕ)) : Type 0 where
  pub few : length pages ≤ 2 ^ 26
  pub each : (p : ℕ) → p < length pages → HasMarks unit width bits n buckets p (words_at pages p)

-- What is marked stays marked.
pub record KeepsMarks (old new : List (PageOf ℕ)) : Type 0 where
  pub long : length new ≡ length old
  pub sizes : (p : ℕ) → length (words_at new p) ≡ length (words_at old p)
  pub marks : (p j i : ℕ) → bit (slice_index (words_at old p) j) i ≡ true → bit (slice_index (words_at new p) j) i ≡ true

-- Mark m is set in each line whose value agrees with the block, if its page exists.
pub record IsMarkSet (bits : ℕ) (block : Block) (m : ℕ) (pages : List (PageOf ℕ)) : Type 0 where
  pub set : (g v : ℕ) → g < bits / 8 → v < 256 → agrees 8 bits block g v ≡ true → m / 64 < length pages → bit (slice_index (words_at pages (m / 64)) (g * 256 + v)) (m % 64) ≡ true

-- The marks of the n rules of the first n blocks are set, from rule `first` on.
pub record AreRulesMarked (unit bits first n : ℕ) (blocks : List Block) (pages : List (PageOf ℕ)) : Type 0 where
  pub each : (i : ℕ) → i < n → IsMarkSet bits (block_at blocks i) ((first + i) / unit) pages

-- A top has the mark of page p in each line in which page p has a mark. If there is no page p, it
-- has the mark in all lines. The marks of the other pages stay.
pub record IsRenewed (p : ℕ) (pages : List (PageOf ℕ)) (old new : List ℕ) : Type 0 where
  pub long : length new ≡ length old
  pub mark : (j i : ℕ) → j < length new → i < 64 → (p < length pages → bit (slice_index (words_at pages p) j) i ≡ true) → bit (slice_index new j) (p % 64) ≡ true
  pub others : (j k : ℕ) → k < 64 → (k ≡ p % 64 → ⊥) → bit (slice_index old j) k ≡ true → bit (slice_index new j) k ≡ true

-- The tops have the marks of the pages from page `from` up to page `to`, in each line in which the
-- page has a mark. For a missing page the mark is in all lines. The marks of earlier pages stay.
pub record AreRenewed (from to : ℕ) (pages old new : List (PageOf ℕ)) : Type 0 where
  pub long : length new ≡ length old
  pub sizes : (q : ℕ) → length (words_at new q) ≡ length (words_at old q)
  pub marks : (p j i : ℕ) → from ≤ p → p < to → p / 64 < length new → j < length (words_at new (p / 64)) → i < 64 → (p < length pages → bit (slice_index (words_at pages p) j) i ≡ true)
      → bit (slice_index (words_at new (p / 64)) j) (p % 64) ≡ true
  pub before : (p j : ℕ) → p < from → bit (slice_index (words_at old (p / 64)) j) (p % 64) ≡ true → bit (slice_index (words_at new (p / 64)) j) (p % 64) ≡ true

-- If the pages have the marks of all rules, the new tops have them as the old ones do.
abbrev pub KeepsTops : ℕ → ℕ → List (PageOf ℕ) → List (PageOf ℕ) → List (PageOf ℕ) → Type 0
KeepsTops bits rules pages old new = (width : ℕ) (buckets : List Row) → IsSummed 64 width bits rules buckets pages → IsSummed 4096 width bits rules buckets old → IsSummed 4096 width bits rules buckets new
