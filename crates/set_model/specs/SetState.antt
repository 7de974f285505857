-- A set as the list of its elements: what a lookup finds, and what changes the list.
use Rattle.std.specs.Prelude.{ℕ, ◌+◌, ◌-◌, ◌^◌, Bool, true, false, ◌&&◌, ◌||◌, nat_lt, nat_le, ◌==◌, List, [], ◌∷◌, ◌++◌, length, if◌then◌else◌, Option, Some, None, filter, find, position, option_map, slice_get, get_or}
use Rattle.std.specs.Option.{option_map_or}
use Rattle.std.specs.List.{remove, flat_map, range_with_len}
use Rattle.set_model.specs.declared.kind.Kind.{Kind}
use Rattle.set_model.specs.declared.kind.Interval.{Interval}
use Rattle.set_model.specs.declared.block.Block.{Block}
use Rattle.set_model.specs.declared.element.Element.{Element}
use Rattle.set_model.specs.declared.element.NewElement.{NewElement}
use Rattle.set_model.specs.declared.report.Why.{Why}
use Rattle.set_model.specs.declared.report.Why.TheVariants.{Overlap, Full, RulesFull}
use Rattle.set_model.specs.Kind.{bits_of}
use Rattle.set_model.specs.Key.{parts_hold, same_parts, start_key, end_key, parts_share}
use Rattle.set_model.specs.Blocks.{blocks}
use Rattle.set_model.specs.Expiry.{live, renewed_at}

-- The state of a set: its kinds, the most elements that it may have, and whether two live elements
-- may share a key; its elements in the order of insertion, and the id of the next one.
pub record State : Type 0 where
  pub kinds : List Kind
  pub size : Option ℕ
  pub disjoint : Bool
  pub elements : List Element
  pub next : ℕ

abbrev pub empty_set : List Kind → Option ℕ → Bool → State
empty_set kinds size disjoint = record { kinds = kinds; size = size; disjoint = disjoint; elements = []; next = 0 }

-- An element holds a key: each interval holds the value of its field.
abbrev pub holds : Element → List ℕ → Bool
holds e key = parts_hold e.parts key

-- An element answers a key at a moment: it is live then and holds the key.
abbrev pub answers : List ℕ → ℕ → Element → Bool
answers key now e = live e now && holds e key

-- The first element of the list that is live and holds the key. It is the earliest inserted one.
abbrev pub first : State → List ℕ → ℕ → Option Element
first s key now = find (answers key now) s.elements

-- the place of that element in the list
abbrev pub place : State → List ℕ → ℕ → Option ℕ
place s key now = position (answers key now) s.elements

-- The element at a place of the list. Past the list's end, which nobody reads, it is an element
-- without intervals.
abbrev pub element_at : State → ℕ → Element
element_at s i = get_or s.elements i (record { id = 0; parts = []; expiry = None; comment = [] })

-- An element shares a key with intervals: both hold some key.
abbrev pub shares : Element → List Interval → Bool
shares e parts = parts_share e.parts parts

-- An element shares a key with intervals at a moment: it is live then and shares a key with them.
abbrev pub is_sharing : List Interval → ℕ → Element → Bool
is_sharing parts now e = live e now && shares e parts

-- the place of the first such element
abbrev pub sharing_place : State → List Interval → ℕ → Option ℕ
sharing_place s parts now = position (is_sharing parts now) s.elements

-- A field has at most this many rules.
abbrev pub rules_limit : ℕ
rules_limit = 1048576

-- the blocks of a field's interval, or no blocks if there is no such field
abbrev pub blocks_of : Option Kind → Option Interval → List Block
blocks_of None part = []
blocks_of (Some kind) None = []
blocks_of (Some kind) (Some part) = blocks part.low part.high (bits_of kind)

-- the blocks of the interval in field f
abbrev pub field_blocks : List Kind → ℕ → List Interval → List Block
field_blocks kinds f parts = blocks_of (slice_get kinds f) (slice_get parts f)

-- The rules of field f: the blocks of the first element's interval, then the blocks of the second
-- element's, and so on.
abbrev pub field_rules : List Kind → ℕ → List Element → List Block
field_rules kinds f elements = flat_map (λ e. field_blocks kinds f e.parts) elements

-- A field has no room for the rules of more intervals.
abbrev pub is_crowded : State → List Interval → ℕ → Bool
is_crowded s parts f = nat_lt rules_limit (length (field_rules s.kinds f s.elements) + length (field_blocks s.kinds f parts))

-- the first such field
abbrev pub crowded_field : State → List Interval → Option ℕ
crowded_field s parts = find (is_crowded s parts) (range_with_len 0 (length s.kinds))

-- A set is full: it has as many elements as it may have, or its ids are used up.
abbrev pub is_full : State → Bool
is_full s = option_map_or (λ size. nat_le size (length s.elements)) s.size false || (s.next == 2 ^ 64 - 1)

-- a place, if the element there has these intervals
abbrev pub same_at : State → List Interval → Option ℕ → Option ℕ
same_at s parts None = None
same_at s parts (Some i) = if same_parts (element_at s i).parts parts then Some i else None

-- The place of the element that is there already: the first live one that holds the start key, if
-- it has the same intervals.
abbrev pub twin_place : State → List Interval → ℕ → Option ℕ
twin_place s parts now = same_at s parts (place s (start_key parts) now)

-- In a set that isn't disjoint, two elements can be in the way of intervals: the first that holds
-- their start key, and the first that holds their end key. No other overlap counts.
abbrev pub start_in_the_way : State → List Interval → ℕ → Option ℕ
start_in_the_way s parts now = if s.disjoint then None else place s (start_key parts) now

abbrev pub end_in_the_way : State → List Interval → ℕ → Option ℕ
end_in_the_way s parts now = if s.disjoint then None else place s (end_key parts) now

-- In a disjoint set the first element that shares any key is in the way.
abbrev pub sharing_in_the_way : State → List Interval → ℕ → Option ℕ
sharing_in_the_way s parts now = if s.disjoint then sharing_place s parts now else None

-- the set with a new element at the end of its list
abbrev pub with_element : State → NewElement → State
with_element s e =
    record s { elements = s.elements ++ record { id = s.next; parts = e.parts; expiry = e.expiry; comment = e.comment } ∷ []; next = s.next + 1 }

-- the set, after the element at a place gets another expiry
abbrev pub renewed : State → ℕ → Option ℕ → State
renewed s i expiry = record s { elements = renewed_at s.elements i expiry }

-- The results of an addition.
pub data Addition : Type 0 where
  New : ℕ → Addition
  Already : ℕ → Addition
  Renewed : ℕ → Addition
  Refused : Why → Addition

-- The result of an addition and the set that it leaves. The first of these eight cases decides:
--
-- 1. The element is there already, and the addition has no expiry.
-- 2. It is there already, and the addition has a new expiry.
-- 3. An element that holds the start key is in the way.
-- 4. An element that holds the end key is in the way.
-- 5. In a disjoint set, an element that shares any key is in the way.
-- 6. The set is full.
-- 7. A field has no room for the rules.
-- 8. The element is new, and comes at the end.
abbrev pub add_by : State → NewElement → (twin expiry at_start at_end sharing : Option ℕ) → (full : Bool) → (crowded : Option ℕ) → Addition × State
add_by s e (Some i) None at_start at_end sharing full crowded = (Already (element_at s i).id, s)
add_by s e (Some i) (Some moment) at_start at_end sharing full crowded = (Renewed (element_at s i).id, renewed s i (Some moment))
add_by s e None expiry (Some i) at_end sharing full crowded = (Refused (Overlap (element_at s i).id), s)
add_by s e None expiry None (Some i) sharing full crowded = (Refused (Overlap (element_at s i).id), s)
add_by s e None expiry None None (Some i) full crowded = (Refused (Overlap (element_at s i).id), s)
add_by s e None expiry None None None true crowded = (Refused Full, s)
add_by s e None expiry None None None false (Some f) = (Refused (RulesFull f), s)
add_by s e None expiry None None None false None = (New s.next, with_element s e)

-- The result of an addition, and the set that it leaves, as in the kernel's insertion into such a
-- set.
abbrev pub add : State → NewElement → ℕ → Addition × State
add s e now =
    add_by s e (twin_place s e.parts now) e.expiry (start_in_the_way s e.parts now) (end_in_the_way s e.parts now) (sharing_in_the_way s e.parts now)
    (is_full s) (crowded_field s e.parts)

-- An element is live and has exactly these intervals.
abbrev pub is_exactly : List Interval → ℕ → Element → Bool
is_exactly parts now e = live e now && same_parts e.parts parts

-- the place of the first such element
abbrev pub exact_place : State → List Interval → ℕ → Option ℕ
exact_place s parts now = position (is_exactly parts now) s.elements

-- the set without the element at a place
abbrev pub without_at : State → ℕ → State
without_at s i = record s { elements = remove s.elements i }

-- The id of the first live element with exactly these intervals, and the set without it.
abbrev pub removed : State → List Interval → ℕ → Option (ℕ × State)
removed s parts now = option_map (λ i. ((element_at s i).id, without_at s i)) (exact_place s parts now)

-- The set of the elements that are live, in their order.
abbrev pub purged : State → ℕ → State
purged s now = record s { elements = filter (λ e. live e now) s.elements }

-- The set without elements. Ids go on.
abbrev pub cleared : State → State
cleared s = record s { elements = [] }
