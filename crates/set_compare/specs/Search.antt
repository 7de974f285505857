-- The search for the least missing key, as lists of regions. A region is one interval per field.
use Rattle.std.specs.Prelude.{◌≡◌, ℕ, ◌+◌, ◌-◌, ◌*◌, ◌<◌, ◌≤◌, Bool, true, false, ◌||◌, ◌⊎◌, List, [], ◌∷◌, Option, None, Some, map, filter, All, get_or, slice_set, MatchOption}
use Rattle.std.specs.List.{list_any}
use Rattle.set_model.specs.declared.kind.Kind.{Kind}
use Rattle.set_model.specs.declared.kind.Interval.{Interval}
use Rattle.set_model.specs.declared.element.Element.{Element}
use Rattle.set_model.specs.Key.{key_fits, parts_fit, parts_hold}
use Rattle.set_model.specs.Expiry.{live}
use Rattle.set_model.specs.SetState.{State}
use Rattle.set_compare.specs.Missing.{finds, is_up_to}

-- Some region holds a key.
abbrev pub in_some : List (List Interval) → List ℕ → Bool
in_some regions key = list_any (λ region. parts_hold region key) regions

-- how many keys a region holds
abbrev pub volume : List Interval → ℕ
volume [] = 1
volume (side ∷ sides) = (side.high + 1 - side.low) * volume sides

-- how many keys regions hold, each region by itself
abbrev pub total_volume : List (List Interval) → ℕ
total_volume [] = 0
total_volume (region ∷ regions) = volume region + total_volume regions

-- Each region fits kinds.
abbrev pub AllFit : List Kind → List (List Interval) → Type 0
AllFit kinds regions = All (λ region. parts_fit kinds region ≡ true) regions

-- the interval of field f
abbrev pub side_of : List Interval → ℕ → Interval
side_of region f = get_or region f (record { low = 0; high = 0 })

-- the part of a region up to a value of field f
abbrev pub part_up_to : List Interval → ℕ → ℕ → List Interval
part_up_to region f high = slice_set region f (record { low = (side_of region f).low; high = high })

-- the part of a region above a value of field f
abbrev pub part_above : List Interval → ℕ → ℕ → List Interval
part_above region f high = slice_set region f (record { low = high + 1; high = (side_of region f).high })

-- A cut at a value of field f. If the region has higher values there, they are taken out. Else it stays as it is.
pub record IsCut (region : List Interval) (f high : ℕ) (left : List Interval) (above : Option (List Interval)) : Type 0 where
  pub cut : MatchOption above (((side_of region f).high ≤ high) × (left ≡ region))
      (λ part. (high < (side_of region f).high) × (left ≡ part_up_to region f high) × (part ≡ part_above region f high))

-- The keys of regions without those that an element holds: no other key is lost, and no key comes in.
pub record IsSubtracted (element : List Interval) (old new : List (List Interval)) : Type 0 where
  pub kept : (key : List ℕ) → parts_hold element key ≡ false → in_some old key ≡ true → in_some new key ≡ true
  pub inside : (key : List ℕ) → in_some new key ≡ true → in_some old key ≡ true
  pub fit : (kinds : List Kind) → AllFit kinds old → AllFit kinds new
  pub fewer : total_volume new < total_volume old

-- There is a least key so far, and it comes no later than this key.
abbrev pub is_reached : Option (List ℕ) → List ℕ → Bool
is_reached None key = false
is_reached (Some least) key = is_up_to least key

-- A key that the regions hold and that the set doesn't find.
pub record IsWitness (s : State) (now : ℕ) (regions : List (List Interval)) (key : List ℕ) : Type 0 where
  pub held : in_some regions key ≡ true
  pub missed : finds s now key ≡ false
  pub fits : key_fits s.kinds key ≡ true

-- A search goes on from a least key so far and regions to others. A key that fits, that the set doesn't find and that the
-- search had to reach is reached, or is still in the regions. The least key so far is as before, or is a witness.
pub record IsSearched (s : State) (now : ℕ) (least : Option (List ℕ)) (old : List (List Interval)) (found : Option (List ℕ)) (new : List (List Interval)) : Type 0 where
  pub kept : (key : List ℕ) → key_fits s.kinds key ≡ true → finds s now key ≡ false → (is_reached least key || in_some old key) ≡ true → (is_reached found key || in_some new key) ≡ true
  pub inside : (key : List ℕ) → in_some new key ≡ true → in_some old key ≡ true
  pub witness : (found ≡ least) ⊎ ((key : List ℕ) × (found ≡ Some key) × IsWitness s now old key)

-- the intervals of the elements that are live at a moment
abbrev pub live_regions : List Element → ℕ → List (List Interval)
live_regions elements now = map (λ e. e.parts) (filter (λ e. live e now) elements)
