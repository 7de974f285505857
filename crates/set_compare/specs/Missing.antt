-- What it means that two sets decide alike, and the least key on which they don't.
--
-- A packet passes or fails by whether its set finds an element (nft(8), sets in expressions). Which element it is
-- doesn't matter here, and neither do the order, the splitting and the number of the elements.
use Rattle.std.specs.Prelude.{◌≡◌, ℕ, Bool, true, false, ◌&&◌, not, List, Option, Some, MatchOption}
use Rattle.std.specs.List.{list_any}
use Rattle.std.specs.Ordering.{is_le, nat_cmp}
use Rattle.std.specs.Cmp.Lexicographic.{slice_cmp}
use Rattle.set_model.specs.Key.{key_fits}
use Rattle.set_model.specs.SetState.{State, answers}
use Rattle.pipapo_image.specs.Image.Found.{found}
use Rattle.set_compare.specs.declared.missing.Lack.{Lack}
use Rattle.set_compare.specs.declared.difference.Difference.{Difference}

-- A set finds a key at a moment: some element is live then and holds the key.
abbrev pub finds : State → ℕ → List ℕ → Bool
finds s now key = list_any (answers key now) s.elements

-- A key is missing in the set t at its moment: the set s finds it at its own moment, and t doesn't.
abbrev pub is_missing : State → ℕ → State → ℕ → List ℕ → Bool
is_missing s at t then key = finds s at key && not (finds t then key)

-- A key comes no later than another. Keys are compared field by field, the first field first.
abbrev pub is_up_to : List ℕ → List ℕ → Bool
is_up_to key other = is_le (slice_cmp nat_cmp key other)

-- Two sets decide alike, each at its moment: for each key that fits, both find an element or neither does.
abbrev pub DecideAlike : State → ℕ → State → ℕ → Type 0
DecideAlike s at t then = (key : List ℕ) → key_fits s.kinds key ≡ true → finds s at key ≡ finds t then key

-- The least key that fits and is missing.
pub record IsLeastMissing (s : State) (at : ℕ) (t : State) (then : ℕ) (key : List ℕ) : Type 0 where
  pub fits : key_fits s.kinds key ≡ true
  pub missing : is_missing s at t then key ≡ true
  pub least : (other : List ℕ) → key_fits s.kinds other ≡ true → is_missing s at t then other ≡ true → is_up_to key other ≡ true

-- No key that fits is missing.
abbrev pub IsNoneMissing : State → ℕ → State → ℕ → Type 0
IsNoneMissing s at t then = (key : List ℕ) → key_fits s.kinds key ≡ true → is_missing s at t then key ≡ false

-- The least missing key, and the first live element of s that holds it.
pub record IsLack (s : State) (at : ℕ) (t : State) (then : ℕ) (lack : Lack) : Type 0 where
  pub key : IsLeastMissing s at t then lack.key
  pub element : found s lack.key at ≡ Some lack.found

-- An answer: the least missing key with its element, or none if no key is missing.
abbrev pub IsFirstMissing : State → ℕ → State → ℕ → Option Lack → Type 0
IsFirstMissing s at t then answer = MatchOption answer (IsNoneMissing s at t then) (IsLack s at t then)

-- What two sets decide differently: the first key that the second set misses, and the first that the first set misses.
pub record AreDifferences (s : State) (at : ℕ) (t : State) (then : ℕ) (difference : Difference) : Type 0 where
  pub in_first : IsFirstMissing s at t then difference.in_first
  pub in_second : IsFirstMissing t then s at difference.in_second
