-- Moments and expiries. An element is expired from its expiry on.
use Rattle.std.specs.Prelude.{ℕ, Bool, true, nat_lt, List, Option, Some, None, slice_get, slice_set}
use Rattle.set_model.specs.declared.element.Element.{Element}

-- An expiry has not come at a moment: there is none, or the moment is before it.
abbrev pub lives : Option ℕ → ℕ → Bool
lives None now = true
lives (Some expiry) now = nat_lt now expiry

-- An element is live at a moment.
abbrev pub live : Element → ℕ → Bool
live e now = lives e.expiry now

-- the elements, after the element e at place i gets another expiry
abbrev pub renewed_element : List Element → ℕ → Option ℕ → Option Element → List Element
renewed_element elements i expiry None = elements
renewed_element elements i expiry (Some e) = slice_set elements i (record e { expiry = expiry })

-- The expiry of the element at place i changes, and nothing else.
abbrev pub renewed_at : List Element → ℕ → Option ℕ → List Element
renewed_at elements i expiry = renewed_element elements i expiry (slice_get elements i)
