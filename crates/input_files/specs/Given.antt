-- Files whose bytes are known.
use Rattle.std.specs.Prelude.{◌≡◌, ◌≤◌, ℕ, List, [], ◌∷◌, length, Option, Some}
use Rattle.set_model.specs.declared.script.SetDecl.{SetDecl}
use Rattle.pip_base.specs.Whole.{size_limit}
use Rattle.input_files.specs.Inputs.{Input, IsOf}

-- The bytes of the file with this name are known, they are within its size, and this holds of them.
pub record Has (told : List ℕ → Option (List ℕ)) (name : List ℕ) (Holds : List ℕ → Type 0) : Type 0 where
  pub text : List ℕ
  pub is_told : told name ≡ Some text
  pub fits : length text ≤ size_limit
  pub holds : Holds text

-- The bytes of each of these files are known and of the file's form, with a script that declares these
-- sets.
abbrev pub AreGiven : (List ℕ → Option (List ℕ)) → List SetDecl → List Input → Type 0
AreGiven told sets [] = Unit {0}
AreGiven told sets (i ∷ others) = Has told i.name (IsOf i.form sets) × AreGiven told sets others
