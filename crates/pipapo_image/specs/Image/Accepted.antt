-- No accepted element is wholly hidden by earlier ones: a lookup of its start key finds it.
use Rattle.std.specs.Prelude.{◌≡◌, ℕ, true, List, Option, Some, None}
use Rattle.set_model.specs.declared.kind.Interval.{Interval}
use Rattle.set_model.specs.declared.element.NewElement.{NewElement}
use Rattle.set_model.specs.Key.{start_key, parts_fit, same_parts}
use Rattle.set_model.specs.Expiry.{lives}
use Rattle.set_model.specs.SetState.{State, Addition, element_at, add}
use Rattle.set_model.specs.SetState.Addition.{New, Already, Renewed, Refused}
use Rattle.pipapo_image.specs.Image.Found.{found}

-- the id of the element that an addition made, found there or renewed, and none if it was refused
abbrev pub accepted_id : Addition → Option ℕ
accepted_id (New id) = Some id
accepted_id (Already id) = Some id
accepted_id (Renewed id) = Some id
accepted_id (Refused why) = None

-- A lookup of the start key of intervals finds the element with this id. It has exactly these
-- intervals.
pub record IsShown (s : State) (parts : List Interval) (now id : ℕ) : Type 0 where
  pub at : ℕ
  pub found_is : found s (start_key parts) now ≡ Some (record { place = at; id = id })
  pub same : same_parts (element_at s at).parts parts ≡ true

-- Take an addition whose intervals fit and whose expiry hasn't come. If it is accepted, a lookup of
-- its start key at the same moment finds its element: the new one, the one that was there already,
-- or the renewed one.
abbrev pub ShowsAccepted : Type 0
ShowsAccepted = (s : State) (e : NewElement) (now id : ℕ) → parts_fit s.kinds e.parts ≡ true → lives e.expiry now ≡ true → accepted_id (add s e now).0 ≡ Some id → IsShown (add s e now).1 e.parts now id
