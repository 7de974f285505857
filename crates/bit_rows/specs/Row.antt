-- A row as a list of bools.
use Rattle.std.specs.Prelude.{◌≡◌, ℕ, ◌+◌, ◌*◌, ◌/◌, ◌%◌, ◌^◌, ◌<◌, ◌≤◌, Bool, true, false, not, ◌&&◌, ◌||◌, ◌==◌, nat_le, nat_lt, List, ◌++◌, take, drop, replicate, map, length, zip, slice_index, get_or}

-- what a contract sees of a row: its places, and how many more it has room for
pub record Row : Type 0 where
  pub bits : List Bool
  pub spare : ℕ

-- place i of a list of bools, false past its end
abbrev pub at : List Bool → ℕ → Bool
at bits i = get_or bits i false

-- i is one of the places from `from` up to `to`
abbrev pub lies : ℕ → ℕ → ℕ → Bool
lies from to i = nat_le from i && nat_lt i to

-- each place is set if it is set in both
abbrev pub both : List Bool → List Bool → List Bool
both xs ys = map (λ p. p.0 && p.1) (zip xs ys)

-- each place is set if it is set in either
abbrev pub either : List Bool → List Bool → List Bool
either xs ys = map (λ p. p.0 || p.1) (zip xs ys)

-- the list with the n places from `from` on set
abbrev pub with_run : List Bool → ℕ → ℕ → List Bool
with_run bits from n = take from bits ++ (replicate n true ++ drop (from + n) bits)

-- r is the least set place from `from` on
pub record IsNextSet (bits : List Bool) (from r : ℕ) : Type 0 where
  pub from_on : from ≤ r
  pub within : r < length bits
  pub set : at bits r ≡ true
  pub least : (i : ℕ) → from ≤ i → i < r → at bits i ≡ false

-- the places from `from` up to `to` are no longer set, and the others are unchanged
pub record IsCleared (from to : ℕ) (old new : List Bool) : Type 0 where
  pub long : length new ≡ length old
  pub places : (i : ℕ) → at new i ≡ (at old i && not (lies from to i))

-- bit k of a word, the lowest first
unfoldable pub bit : ℕ → ℕ → Bool
bit word k = word / 2 ^ k % 2 == 1

-- the 64 places from place 64 * i on are those of the word, and the others are unchanged
pub record IsWordPut (i word : ℕ) (old new : List Bool) : Type 0 where
  pub long : length new ≡ length old
  pub here : (k : ℕ) → k < 64 → at new (64 * i + k) ≡ bit word k
  pub others : (r : ℕ) → (r / 64 ≡ i → ⊥) → at new r ≡ at old r

-- The words spell the list, 64 places to a word, with the first place in the lowest bit. No bit
-- past the list's end is set, and the number of words is a multiple of eight.
pub record IsSpelling (words : List ℕ) (bits : List Bool) : Type 0 where
  pub steps : length words % 8 ≡ 0
  pub long : length bits ≤ 64 * length words
  pub same : (w k : ℕ) → k < 64 → bit (slice_index words w) k ≡ at bits (64 * w + k)
