-- The words of a row in which places may be set.
use Rattle.std.specs.Prelude.{◌≡◌, ℕ, ◌+◌, ◌*◌, ◌/◌, ◌%◌, ◌<◌, ◌≤◌, max, Bool, true, false, List, length}
use Rattle.bit_rows.specs.Row.{at, bit}
use Rattle.fused_lookup.specs.declared.window.Window.{Window}

-- Word i is in a block of eight words that was touched. Blocks whose numbers are a multiple of 64
-- apart are touched together.
abbrev pub is_touched : Window → ℕ → Bool
is_touched w i = bit w.touched (i / 8 % 64)

-- Nothing is set outside the window, nor in a block that wasn't touched. The window is within the
-- row.
pub record IsWindow (bits : List Bool) (w : Window) : Type 0 where
  pub below : (i : ℕ) → i < 64 * w.first → at bits i ≡ false
  pub above : (i : ℕ) → 64 * w.end ≤ i → at bits i ≡ false
  pub apart : (i : ℕ) → is_touched w (i / 64) ≡ false → at bits i ≡ false
  pub within : 64 * w.end ≤ length bits + 63

-- The blocks from `first` up to `end` are touched, and all blocks that were touched before.
pub record HasBlocks (old first end new : ℕ) : Type 0 where
  pub kept : (k : ℕ) → bit old k ≡ true → bit new k ≡ true
  pub added : (b : ℕ) → first ≤ b → b < end → bit new (b % 64) ≡ true

-- The window also has the words of the n places from `from` on, and no later word but its own.
pub record IsWidened (old : Window) (from n : ℕ) (new : Window) : Type 0 where
  pub first : new.first ≤ old.first
  pub end : old.end ≤ new.end
  pub kept : (i : ℕ) → is_touched old i ≡ true → is_touched new i ≡ true
  pub low : 0 < n → 64 * new.first ≤ from
  pub high : 0 < n → from + n ≤ 64 * new.end
  pub added : (i : ℕ) → from ≤ i → i < from + n → is_touched new (i / 64) ≡ true
  pub least : 64 * new.end ≤ max (64 * old.end) (from + n + 63)

-- No word from `from` up to `to` is in a touched block.
abbrev pub AreUntouched : Window → ℕ → ℕ → Type 0
AreUntouched w from to = (i : ℕ) → from ≤ i → i < to → is_touched w i ≡ false

-- i is the first word of the window, from `from` on, that is in a touched block
pub record IsNextWord (w : Window) (from i : ℕ) : Type 0 where
  pub from_on : from ≤ i
  pub within : i < w.end
  pub touched : is_touched w i ≡ true
  pub least : AreUntouched w from i
