-- Which elements of a set hold a key, or some fields of it.
use Rattle.std.specs.Prelude.{ℕ, Bool, false, ◌&&◌, not, ◌==◌, max, if◌then◌else◌, List, length, filter, Option, Some, None, slice_get}
use Rattle.std.specs.List.{find, fold, enumerate_from}
use Rattle.set_model.specs.declared.element.Element.{Element}
use Rattle.set_model.specs.declared.kind.Interval.{Interval}
use Rattle.set_model.specs.Expiry.{live}
use Rattle.set_model.specs.Key.{contains}
use Rattle.set_model.specs.SetState.{answers, holds}

-- The fields of a key: each has its number, from 0, and its value.
abbrev pub fields : List ℕ → List (ℕ × ℕ)
fields key = enumerate_from 0 key

-- there is an interval, and it holds a value
abbrev pub is_in : ℕ → Option Interval → Bool
is_in value None = false
is_in value (Some part) = contains part value

-- An element holds a field of a key: its interval of this field holds the value.
abbrev pub holds_field : Element → ℕ × ℕ → Bool
holds_field e f = is_in f.1 (slice_get e.parts f.0)

-- how many fields of a key an element holds
abbrev pub field_count : List ℕ → Element → ℕ
field_count key e = length (filter (holds_field e) (fields key))

-- the fields of a key that an element doesn't hold
abbrev pub unmatched : List ℕ → Element → List (ℕ × ℕ)
unmatched key e = filter (λ f. not (holds_field e f)) (fields key)

-- the elements that are live at a moment
abbrev pub live_elements : ℕ → List Element → List Element
live_elements now es = filter (λ e. live e now) es

-- the live elements that hold a field of a key
abbrev pub field_holders : ℕ → ℕ × ℕ → List Element → List Element
field_holders now f es = filter (λ e. live e now && holds_field e f) es

-- The live elements that hold a key. The first of them is the answer.
abbrev pub holders : List ℕ → ℕ → List Element → List Element
holders key now es = filter (answers key now) es

-- The first element, live or not, that holds a key. If no live element holds the key, it is expired.
abbrev pub first_holder : List ℕ → List Element → Option Element
first_holder key es = find (λ e. holds e key) es

-- the most fields of a key that a live element holds
abbrev pub most_fields : List ℕ → ℕ → List Element → ℕ
most_fields key now es = fold (λ most e. max most (field_count key e)) 0 (live_elements now es)

-- an element is live and holds so many fields of a key
abbrev pub holds_many : List ℕ → ℕ → ℕ → Element → Bool
holds_many key now count e = live e now && (field_count key e == count)

-- The first of the live elements that hold the most fields of a key. There is none if no live element holds a field.
abbrev pub nearest : List ℕ → ℕ → List Element → Option Element
nearest key now es = let most = most_fields key now es in if most == 0 then None else find (holds_many key now most) es
