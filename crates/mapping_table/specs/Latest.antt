-- The latest expiry in a word of 64 rules.
use Rattle.std.specs.Prelude.{◌≡◌, ℕ, ◌+◌, ◌-◌, ◌*◌, ◌/◌, ◌^◌, ◌<◌, ◌≤◌, max, List, [], ◌∷◌, length, get_or, unwrap_or}
use Rattle.set_tables.specs.declared.End.{End}
use Rattle.mapping_table.specs.Spared.{Spared, word_of}

-- the moment of an expiry; without an expiry it is the last moment
abbrev pub expiry_moment : End → ℕ
expiry_moment e = unwrap_or e.expiry (2 ^ 64 - 1)

-- The latest expiry of all ends. From then on no end is live, unless it is the last moment.
abbrev pub latest_end : List End → ℕ
latest_end [] = 0
latest_end (e ∷ es) = max (expiry_moment e) (latest_end es)

-- Each word of 64 ends has its moment, and none of its ends has a later expiry.
pub record AreBounded (ends : List End) (moments : List ℕ) : Type 0 where
  pub count : length moments ≡ (length ends + 63) / 64
  pub latest : (w : ℕ) → latest_end (word_of w ends) ≤ get_or moments w 0

-- The ends have their moments. There is room for the moments of all rules for which there is room.
pub record AreTimed (ends : Spared End) (moments : List ℕ) (capacity : ℕ) : Type 0 where
  pub bounded : AreBounded ends.items moments
  pub held : length ends.items + ends.spare ≤ 64 * capacity

-- The moments of the words from `from` up to `to` are raised to this moment if they are before it.
-- The others stay.
pub record AreRaised (from to moment : ℕ) (old new : List ℕ) : Type 0 where
  pub before : (w : ℕ) → w < from → get_or new w 0 ≡ get_or old w 0
  pub raised : (w : ℕ) → from ≤ w → w < to → get_or new w 0 ≡ max (get_or old w 0) moment
  pub behind : (w : ℕ) → to ≤ w → get_or new w 0 ≡ get_or old w 0

-- From word `from` on, each moment is the latest expiry of its word. Earlier moments stay.
pub record AreFound (ends : List End) (from : ℕ) (old new : List ℕ) : Type 0 where
  pub count : length new ≡ (length ends + 63) / 64
  pub before : (w : ℕ) → w < from → get_or new w 0 ≡ get_or old w 0
  pub found : (w : ℕ) → from ≤ w → get_or new w 0 ≡ latest_end (word_of w ends)
