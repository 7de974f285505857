-- Disjoint sets: live elements share no key.
--
-- Before an insertion the kernel looks for elements that hold the new start key or end key, and for
-- no other overlap. In a disjoint set each shared key counts. The flag is this project's own.
use Rattle.std.specs.Prelude.{◌≡◌, ℕ, Bool, true, ◌&&◌, not, List, [], ◌∷◌, filter}
use Rattle.std.specs.List.{list_all}
use Rattle.set_model.specs.declared.element.Element.{Element}
use Rattle.set_model.specs.Expiry.{live}
use Rattle.set_model.specs.SetState.{State, shares}

-- No two elements of a list share a key.
abbrev pub none_share : List Element → Bool
none_share [] = true
none_share (e ∷ es) = list_all (λ d. not (shares e d.parts)) es && none_share es

-- No two elements of a set that are live at a moment share a key.
abbrev pub is_apart : State → ℕ → Bool
is_apart s now = none_share (filter (λ e. live e now) s.elements)

-- A set keeps its promise at a moment: if it is disjoint, no two elements that are live then share
-- a key.
abbrev pub IsApart : State → ℕ → Type 0
IsApart s now = s.disjoint ≡ true → is_apart s now ≡ true
