-- What the code's values are in the definitions.
use Rattle.std.specs.Prelude.{◌≡◌, ◌++◌, ℕ, List}
use Rattle.compare_answer.specs.declared.side.Finished.{Finished}
use Rattle.compare_answer.specs.declared.side.Compared.{Compared}
use Rattle.key_answer.specs.Origin.{lines_of}
use Rattle.compare_answer.specs.Ending.{Ending, LastSet}

abbrev pub plain_set : Compared → LastSet
plain_set s = record { file = s.file.now; declared = s.declared.now; state = s.image.now; at = s.at; lines = s.lines.now }

abbrev pub plain_ending : Finished → Ending
plain_ending f = record { file = f.file.now; schema = f.trace.control.schema; sets = f.trace.control.work.base.sets; at = f.at; lines = lines_of f.trace.lines }

-- A text of this kind was appended.
pub record Adds (IsText : List ℕ → Type 0) (old new : List ℕ) : Type 0 where
  pub text : List ℕ
  pub is_text : IsText text
  pub added : new ≡ old ++ text
