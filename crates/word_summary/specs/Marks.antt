-- Marks of words of rules.
--
-- A page has the marks of 64 words of 64 rules each. It has one line of 64 marks for each byte of a
-- field's value and each value of the byte. Line g * 256 + v is for value v of byte g, most
-- significant byte first.
use Rattle.std.specs.Prelude.{◌≡◌, ℕ, ◌+◌, ◌*◌, ◌/◌, ◌<◌, ◌≤◌, Bool, true, not, ◌&&◌, ◌==◌, bit_and, List, length, slice_index}
use Rattle.bit_rows.specs.Row.{bit}
use Rattle.set_model.specs.declared.block.Block.{Block}
use Rattle.field_groups.specs.Groups.{group, every, agrees}

-- some bit is set in both words
abbrev pub share : ℕ → ℕ → Bool
share a b = not (bit_and a b == 0)

-- one line for each byte and value
pub record IsMarkPage (bits : ℕ) (page : List ℕ) : Type 0 where
  pub long : length page ≡ bits / 8 * 256

-- The line's n marks from mark `first` on are made anew. The other marks and the other lines are
-- unchanged.
pub record HasNewMarks (line first n marks : ℕ) (old new : List ℕ) : Type 0 where
  pub long : length new ≡ length old
  pub others : (i : ℕ) → (i ≡ line → ⊥) → slice_index new i ≡ slice_index old i
  pub below : (k : ℕ) → k < first → bit (slice_index new line) k ≡ bit (slice_index old line) k
  pub above : (k : ℕ) → first + n ≤ k → k < 64 → bit (slice_index new line) k ≡ bit (slice_index old line) k
  pub here : (k : ℕ) → k < n → bit (slice_index new line) (first + k) ≡ bit marks k

-- Mark k of the first n lines is made anew: it is set if the line of its page has a mark. The other
-- marks are unchanged.
pub record IsPageMarked (k n : ℕ) (lines old new : List ℕ) : Type 0 where
  pub long : length new ≡ length old
  pub here : (j : ℕ) → j < n → bit (slice_index new j) k ≡ not (slice_index lines j == 0)
  pub others : (j i : ℕ) → i < 64 → (i ≡ k → ⊥) → bit (slice_index new j) i ≡ bit (slice_index old j) i

-- what is set stays set
pub record ClearsNone (old new : List ℕ) : Type 0 where
  pub long : length new ≡ length old
  pub marks : (j i : ℕ) → bit (slice_index old j) i ≡ true → bit (slice_index new j) i ≡ true

-- Word k is marked in each line whose value agrees with the block. Marks that were set stay set.
pub record IsWordMarked (bits : ℕ) (block : Block) (k : ℕ) (old new : List ℕ) : Type 0 where
  pub kept : ClearsNone old new
  pub set : (g v : ℕ) → g < bits / 8 → v < 256 → agrees 8 bits block g v ≡ true → bit (slice_index new (g * 256 + v)) k ≡ true

-- word k of the page is marked in the line of each byte of the value
abbrev pub is_candidate : ℕ → List ℕ → ℕ → ℕ → Bool
is_candidate bits page value k = every (λ g. bit (slice_index page (g * 256 + group 8 bits g value)) k) (bits / 8)

-- At most one word is left.
pub record IsSingle (left : ℕ) : Type 0 where
  pub one : (j k : ℕ) → j < k → bit left j ≡ true → bit left k ≡ true → ⊥

-- Each candidate is left. If two words are left, both are candidates.
pub record AreCandidates (bits : ℕ) (page : List ℕ) (value left : ℕ) : Type 0 where
  pub all : (k : ℕ) → k < 64 → is_candidate bits page value k ≡ true → bit left k ≡ true
  pub two : (j k : ℕ) → j < k → k < 64 → bit left j ≡ true → bit left k ≡ true → (is_candidate bits page value j && is_candidate bits page value k) ≡ true
