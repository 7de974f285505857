-- Which elements of a set's image are the set's.
use Rattle.std.specs.Prelude.{ℕ, Option, Some, None}
use Rattle.set_model.specs.SetState.{State, purged}

-- The set of an image: those elements that are live at the moment by which others left.
abbrev pub staying : Option ℕ → State → State
staying None image = image
staying (Some m) image = purged image m
