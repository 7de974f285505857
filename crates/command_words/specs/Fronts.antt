-- A word that begins with an option and `=`.
use Rattle.std.specs.Prelude.{ℕ, ◌==◌, if◌then◌else◌, List, [], ◌∷◌, Option, Some, None}

-- what comes after a front, if a word begins with it
abbrev pub after_front : List ℕ → List ℕ → Option (List ℕ)
after_front [] word = Some word
after_front (b ∷ front) [] = None
after_front (b ∷ front) (c ∷ word) = if b == c then after_front front word else None
