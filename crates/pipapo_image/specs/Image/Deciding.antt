-- How lookups decide an insertion. The set looks up the start key and the end key. A disjoint set
-- looks up the start key and the intervals.
use Rattle.std.specs.Prelude.{◌≡◌, ℕ, ◌<◌, ◌-◌, ◌^◌, ◌||◌, ◌==◌, nat_le, Bool, true, false, List, length, Option, Some, None, Result, Ok, Err, option_map, IfSome, if◌then◌else◌}
use Rattle.std.specs.Option.{option_or, option_map_or}
use Rattle.std.specs.Global.{Vec}
use Rattle.set_model.specs.declared.block.Block.{Block}
use Rattle.set_model.specs.declared.kind.Interval.{Interval}
use Rattle.set_model.specs.declared.element.NewElement.{NewElement}
use Rattle.set_model.specs.declared.report.Why.{Why}
use Rattle.set_model.specs.declared.report.Why.TheVariants.{Overlap, Full, RulesFull}
use Rattle.set_model.specs.Key.{end_key, same_parts}
use Rattle.set_model.specs.SetState.{State, Addition, add_by, element_at, place, twin_place, sharing_place, start_in_the_way, end_in_the_way, sharing_in_the_way, crowded_field, renewed, with_element}
use Rattle.set_model.specs.SetState.Addition.{New, Already, Renewed, Refused}
use Rattle.pipapo_image.specs.declared.answers.ChangeError.{ChangeError}
use Rattle.pipapo_image.specs.declared.answers.ChangeError.TheVariants as errors
use Rattle.pipapo_image.specs.Image.Decision.{IsWithinLimits}

-- A set of this size and next id is full if it has so many elements.
abbrev pub is_full_with : State → ℕ → Bool
is_full_with s count = option_map_or (λ size. nat_le size count) s.size false || (s.next == 2 ^ 64 - 1)

-- The result of an addition, and the set that it leaves, given whether the set is full. An addition
-- asks this of the set itself. A set whose image also has elements that left asks it of itself, and
-- all else of the image.
abbrev pub add_if : Bool → State → NewElement → ℕ → Addition × State
add_if full s e now =
    add_by s e (twin_place s e.parts now) e.expiry (start_in_the_way s e.parts now) (end_in_the_way s e.parts now) (sharing_in_the_way s e.parts now) full (crowded_field s e.parts)

-- Either a new element is within all limits and nothing refuses it, or this refuses it, or memory
-- ran out.
abbrev pub IsTest : State → List Interval → Option Why → Result (Vec (List Block)) ChangeError → Type 0
IsTest s parts why (Ok columns) = (why ≡ None) × IsWithinLimits s parts columns.items
IsTest s parts why (Err (errors.Refused cause)) = why ≡ Some cause
IsTest s parts why (Err errors.Memory) = Unit

-- why a new element is refused, by the first field that would have too many rules
abbrev pub by_rules : Option ℕ → Option Why
by_rules crowded = option_map (λ f. RulesFull f) crowded

-- why it is refused, by whether the set is full
abbrev pub by_size : State → List Interval → Bool → Option Why
by_size s parts full = option_or (if full then Some Full else None) (by_rules (crowded_field s parts))

-- why it is refused, by whether the set is full, and by the place of the element that is in the way,
-- if there is one
abbrev pub by_way : State → List Interval → Bool → Option ℕ → Option Why
by_way s parts full (Some i) = Some (Overlap (element_at s i).id)
by_way s parts full None = by_size s parts full

-- what happens to intervals that are not in the set, by what refuses them
abbrev pub add_new : State → NewElement → Option Why → Addition × State
add_new s e (Some why) = (Refused why, s)
add_new s e None = (New s.next, with_element s e)

-- what happens to an element that is there already, at a place: a new expiry renews it
abbrev pub add_again : State → Option ℕ → ℕ → Addition × State
add_again s None i = (Already (element_at s i).id, s)
add_again s (Some moment) i = (Renewed (element_at s i).id, renewed s i (Some moment))

-- The element at a place holds the start key. It has the same intervals or others.
abbrev pub at_start : State → ℕ → Option ℕ → Bool → Addition × State
at_start s i x true = add_again s x i
at_start s i x false = (Refused (Overlap (element_at s i).id), s)

-- what an addition does, by the place of the element that holds the start key
abbrev pub by_start : State → NewElement → ℕ → Bool → Option ℕ → Addition × State
by_start s e now full (Some i) = at_start s i e.expiry (same_parts (element_at s i).parts e.parts)
by_start s e now full None = add_new s e (by_way s e.parts full (place s (end_key e.parts) now))

-- an answer that is the place of the element that is there already, within the list
pub record IsTwinPlace (s : State) (parts : List Interval) (now : ℕ) (result : Option ℕ) : Type 0 where
  pub value : result ≡ twin_place s parts now
  pub within : IfSome result (λ i. i < length s.elements)

-- what an addition does in a disjoint set, by the place of the element that is there already
abbrev pub by_twin : State → NewElement → ℕ → Bool → Option ℕ → Addition × State
by_twin s e now full (Some i) = add_again s e.expiry i
by_twin s e now full None = add_new s e (by_way s e.parts full (sharing_place s e.parts now))
