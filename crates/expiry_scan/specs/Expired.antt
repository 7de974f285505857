-- The expired elements of a list.
use Rattle.std.specs.Prelude.{ℕ, ◌+◌, Bool, true, false, nat_le, ◌&&◌, not, List, drop, Option, Some, None, option_map, position}
use Rattle.set_model.specs.declared.element.Element.{Element}
use Rattle.set_model.specs.Expiry.{live}

-- An element is expired at a moment: it isn't live then.
abbrev pub is_expired : ℕ → Element → Bool
is_expired now e = not (live e now)

-- the least place, not below `from`, of an element that is expired
abbrev pub next_place : List Element → ℕ → ℕ → Option ℕ
next_place elements from now = option_map (λ k. from + k) (position (is_expired now) (drop from elements))

-- An element stays in a set from which the elements that were expired at a moment have left.
-- Without a moment each stays.
abbrev pub stays : Option ℕ → Element → Bool
stays None e = true
stays (Some passed) e = live e passed

-- It is still in the set, and is expired now.
abbrev pub is_leaving : Option ℕ → ℕ → Element → Bool
is_leaving passed now e = stays passed e && is_expired now e

-- A moment by which elements left is no later than another one. No moment at all is before each.
abbrev pub is_by : Option ℕ → Option ℕ → Bool
is_by None q = true
is_by (Some p) None = false
is_by (Some p) (Some q) = nat_le p q
