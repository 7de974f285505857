-- The elements of a set of one generation in a handle of their own, and what C reads of each.
use Rattle.std.specs.Prelude.{◌≡◌, ◌<◌, ◌≤◌, ◌⊎◌, ◌++◌, ◌*◌, ◌-◌, ◌^◌, ℕ, List, length, take, drop, Option, Some, None, slice_get}
use Rattle.set_model.specs.declared.kind.Kind.{Kind}
use Rattle.set_model.specs.declared.element.Element.{Element}
use Rattle.set_model.specs.SetState.{State}
use Rattle.set_model.specs.Control.{Generation}
use Rattle.history_laws.specs.Histories.{EndsWith}
use Rattle.gen_publish.specs.Publish.{ReaderView}
use Rattle.packed_values.specs.Packed.{packed_length, parts_in}
use Rattle.c_handles.specs.declared.place.Place.{Place}
use Rattle.c_handles.specs.declared.place.Place.TheVariants.{In}
use Rattle.c_handles.specs.declared.element_shape.ElementShape.{ElementShape}
use Rattle.c_handles.specs.declared.fault.Fault.{Fault}
use Rattle.c_handles.specs.declared.fault.Fault.TheVariants.{Memory, Handle, Set, Turn, Room}
use Rattle.c_handles.specs.declared.fault.Fault.TheVariants as faults
use Rattle.c_handles.specs.declared.object.Object.{Object}
use Rattle.c_handles.specs.declared.object.Object.TheVariants.{Control, Reader, Elements}

-- The set of this number in the generation that a reader holds.
abbrev pub IsHeldSet : ReaderView → ℕ → State → Type 0
IsHeldSet h set s = (g : Generation) → EndsWith h.seen g → slice_get g.sets set ≡ Some s

-- The same of a reader at a place, which may hold none.
abbrev pub IsSetAt : Place → ℕ → State → Type 0
IsSetAt (In h) set s = IsHeldSet h set s
IsSetAt other set s = ⊥

-- The set of this number in a control's last generation, or in the one that a reader holds.
abbrev pub AreElementsOf : Object → ℕ → State → Type 0
AreElementsOf (Control c) set s = slice_get c.work.base.sets set ≡ Some s
AreElementsOf (Reader r) set s = IsSetAt r.place set s
AreElementsOf (Elements e) set s = ⊥

-- A handle got the elements of this set, and this is how many there are.
abbrev pub HasElements : Option Object → ℕ → Option Object → ℕ → Type 0
HasElements (Some x) set (Some (Elements s)) count = AreElementsOf x set s × (count ≡ length s.elements)
HasElements from set held count = ⊥

-- Why there are no elements of the set of a number, of so many sets: there is no such set. Memory is wanted only for a set that is
-- there.
abbrev pub RefusesSet : ℕ → ℕ → Fault → Type 0
RefusesSet count set Set = count ≤ set
RefusesSet count set Memory = set < count
RefusesSet count set other = ⊥

-- The same of a reader at a place: first, it has to hold a generation.
abbrev pub RefusesHeldSet : Place → ℕ → Fault → Type 0
RefusesHeldSet (In h) set fault = RefusesSet (length h.schema) set fault
RefusesHeldSet other set fault = fault ≡ Turn

-- Why a handle gets no elements: what is asked is no control and no reader, or the cause is one of these.
abbrev pub RefusesElements : ℕ → Object → Fault → Type 0
RefusesElements set (Control c) fault = RefusesSet (length c.schema) set fault
RefusesElements set (Reader s) fault = RefusesHeldSet s.place set fault
RefusesElements set (Elements e) fault = fault ≡ Handle

-- the number of an expiry: the largest if there is none
abbrev pub number_of_expiry : Option ℕ → ℕ
number_of_expiry None = 2 ^ 64 - 1
number_of_expiry (Some moment) = moment

-- how many bytes the bounds of an element have: two keys
abbrev pub bounds_size : List Kind → ℕ
bounds_size kinds = 2 * packed_length kinds

-- A struct has an element's id, its expiry, and how many bytes its bounds and its comment have.
pub record IsShapeOf (kinds : List Kind) (e : Element) (shape : ElementShape) : Type 0 where
  pub id : shape.id ≡ e.id
  pub expiry : shape.expiry ≡ number_of_expiry e.expiry
  pub bounds : shape.bounds_length ≡ bounds_size kinds
  pub comment : shape.comment_length ≡ length e.comment

-- An element's bounds are written over the front of a buffer: its intervals are those of the bytes, as an insertion reads them.
pub record AreBoundsWritten (kinds : List Kind) (e : Element) (old new : List ℕ) : Type 0 where
  pub room : bounds_size kinds ≤ length new
  pub intervals : parts_in kinds (take (bounds_size kinds) new) ≡ e.parts
  pub others : drop (bounds_size kinds) new ≡ drop (bounds_size kinds) old

-- The element at a place was written: its bounds and its comment over the front of a buffer each.
pub record IsWritten (s : State) (place : ℕ) (bounds bounds' comment comment' : List ℕ) (shape : ElementShape) : Type 0 where
  pub element : Element
  pub at : slice_get s.elements place ≡ Some element
  pub shaped : IsShapeOf s.kinds element shape
  pub bounded : AreBoundsWritten s.kinds element bounds bounds'
  pub commented : comment' ≡ element.comment ++ drop (length element.comment) comment

abbrev pub HasElement : Option Object → ℕ → List ℕ → List ℕ → List ℕ → List ℕ → ElementShape → Type 0
HasElement (Some (Elements s)) place bounds bounds' comment comment' shape = IsWritten s place bounds bounds' comment comment' shape
HasElement held place bounds bounds' comment comment' shape = ⊥

-- A buffer has no room for the element at a place. The struct has the lengths that are wanted.
pub record IsTooLong (s : State) (place room comment_room : ℕ) (shape : ElementShape) : Type 0 where
  pub element : Element
  pub at : slice_get s.elements place ≡ Some element
  pub shaped : IsShapeOf s.kinds element shape
  pub longer : (room < bounds_size s.kinds) ⊎ (comment_room < length element.comment)

-- Why no element is written: there is none at this place; a buffer has no room for it; or what is held is no set's elements.
abbrev pub RefusesElement : ℕ → ℕ → ℕ → ElementShape → Object → Fault → Type 0
RefusesElement place room comment_room shape (Elements s) faults.Place = length s.elements ≤ place
RefusesElement place room comment_room shape (Elements s) Room = IsTooLong s place room comment_room shape
RefusesElement place room comment_room shape (Elements s) other = ⊥
RefusesElement place room comment_room shape (Control c) fault = fault ≡ Handle
RefusesElement place room comment_room shape (Reader r) fault = fault ≡ Handle
