-- The tables of a published set: what lookups read.
use Rattle.std.specs.Prelude.{◌≡◌, ℕ, false, List, Option, filter, find}
use Rattle.set_model.specs.declared.element.Element.{Element}
use Rattle.set_model.specs.Expiry.{live}
use Rattle.set_model.specs.SetState.{State, answers, first}
use Rattle.expiry_scan.specs.Expired.{stays}
use Rattle.pipapo_image.specs.declared.index.Index.{Index}
use Rattle.pipapo_image.specs.Index.{IsIndexOf}
use Rattle.set_space.specs.LazyImage.{moment}

-- The tables are those of a list of elements: the set's elements, and elements that left by the
-- moment `passed`. The set has the others, in the list's order.
--
-- For a lookup at a moment the tables are asked at the later of that moment and `passed`. At that
-- moment each element that left is expired. So the first element of the list that answers is the
-- first element of the set that answers.
pub record HasTables (s : State) (index : Index) : Type 0 where
  pub elements : List Element
  pub passed : Option ℕ
  pub tables : IsIndexOf s.kinds elements index
  pub others : s.elements ≡ filter (stays passed) elements
  pub left : (e : Element) (now : ℕ) → stays passed e ≡ false → live e (moment passed now) ≡ false
  pub first_is : (key : List ℕ) (now : ℕ) → first s key now ≡ find (answers key (moment passed now)) elements
