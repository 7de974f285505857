-- Notes for a person, beside the output.
use Rattle.std.specs.Prelude.{◌≡◌, ⊤, ℕ, List, ◌++◌, Option, Some, None}

-- The bytes noted so far grew by a text, or aren't known any more. Unknown bytes stay unknown.
abbrev pub Tells : Option (List ℕ) → Option (List ℕ) → List ℕ → Type 0
Tells old None text = ⊤
Tells None (Some after) text = ⊥
Tells (Some before) (Some after) text = after ≡ before ++ text
