-- An element that is added at the end of a set's list, as it is.
use Rattle.std.specs.Prelude.{[], ◌∷◌, ◌++◌}
use Rattle.set_model.specs.declared.element.Element.{Element}
use Rattle.set_model.specs.SetState.{State}

-- the set with the element at the end of its list
abbrev pub with_last : State → Element → State
with_last s e = record s { elements = s.elements ++ e ∷ [] }
