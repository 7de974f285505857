-- The first element that is in the way of intervals, in a set whose elements share no key.
use Rattle.std.specs.Prelude.{◌≡◌, ℕ, ◌<◌, List, length, Option, IfSome, get_or}
use Rattle.lookup_table.specs.declared.table.FieldTable.{FieldTable}
use Rattle.range_expand.specs.Split.{IsFieldInterval}
use Rattle.set_model.specs.declared.kind.Interval.{Interval}
use Rattle.set_model.specs.declared.packet.Found.{Found}
use Rattle.set_model.specs.SetState.{State, sharing_place}
use Rattle.pipapo_image.specs.Image.Found.{found_at}

-- One interval per field, within the field's bits.
pub record AreIntervalsOf (fields : List FieldTable) (parts : List Interval) : Type 0 where
  pub one_each : length parts ≡ length fields
  pub within : (f : ℕ) (t : FieldTable) (p : Interval) → f < length fields → IsFieldInterval (get_or parts f p).low (get_or parts f p).high (get_or fields f t).bits

-- the place and the id of the first live element that shares a key with the intervals
abbrev pub sharing_found : State → List Interval → ℕ → Option Found
sharing_found s parts now = found_at s (sharing_place s parts now)

-- an answer that is that place, within the list
pub record IsSharingPlace (s : State) (parts : List Interval) (now : ℕ) (result : Option ℕ) : Type 0 where
  pub value : result ≡ sharing_place s parts now
  pub within : IfSome result (λ i. i < length s.elements)
