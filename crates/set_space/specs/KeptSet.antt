-- Which elements of a set's image left the set.
use Rattle.std.specs.Prelude.{ℕ, ◌+◌, ◌<◌, ◌≤◌, Bool, List, [], Option, Some, None, length, map, take, count_by}
use Rattle.set_model.specs.SetState.{State}
use Rattle.expiry_scan.specs.Expired.{is_expired}

-- for each element of the image, whether it left
abbrev pub gap_marks : Option ℕ → State → List Bool
gap_marks None image = []
gap_marks (Some m) image = map (is_expired m) image.elements

-- how many elements that left come before a place of the image
abbrev pub gaps_before : Option ℕ → State → ℕ → ℕ
gaps_before None image i = 0
gaps_before (Some m) image i = count_by (is_expired m) (take i image.elements)

-- At most i elements of the set come before the place `low` of the image, and more before `high`. So the element at place i of
-- the set is between: at `low` or later, and before `high`.
pub record IsBetween (passed : Option ℕ) (image : State) (i low high : ℕ) : Type 0 where
  pub within : high ≤ length image.elements
  pub order : low < high
  pub few : low ≤ i + gaps_before passed image low
  pub more : i + gaps_before passed image high < high
