-- The line on errors of a script that aren't shown.
use Rattle.std.specs.Prelude.{ℕ, List, [], ◌∷◌, ◌++◌, codes}
use Rattle.token_notes.specs.Shown.{shown, name_text}

abbrev pub hidden_text : List ℕ → List ℕ
hidden_text name = name_text name ++ (shown (codes "further errors aren't shown") ++ 10 ∷ [])
