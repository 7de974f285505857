-- A script at its end, and its sets there.
use Rattle.std.specs.Prelude.{◌≡◌, ℕ, List, Some, slice_get}
use Rattle.set_model.specs.declared.script.Script.{Script}
use Rattle.set_model.specs.declared.script.SetDecl.{SetDecl}
use Rattle.set_model.specs.Control.{Mode, history}
use Rattle.set_model.specs.SetState.{State}
use Rattle.key_answer.specs.Origin.{traced}

-- A script at its end: its file's name, its declared sets, what they hold in the last generation, and its last moment. For each
-- set it has the lines that added the elements, by their ids.
pub record Ending : Type 0 where
  pub file : List ℕ
  pub schema : List SetDecl
  pub sets : List State
  pub at : ℕ
  pub lines : ℕ → List ℕ

-- the end of a script with this file's name
abbrev pub ending_of : Mode → List ℕ → Script → Ending
ending_of mode file s = record { file = file; schema = s.schema; sets = (history mode s.schema s.sections).last.sets; at = s.last; lines = λ set. (traced mode set s.schema s.sections).lines }

-- A set at a script's end: the name of the script's file, the set's declaration, what the set holds, the last moment, and the
-- lines that added its elements.
pub record LastSet : Type 0 where
  pub file : List ℕ
  pub declared : SetDecl
  pub state : State
  pub at : ℕ
  pub lines : List ℕ

-- A set is the one at this place of a script's declarations, at the script's end.
pub record IsLastSet (e : Ending) (place : ℕ) (s : LastSet) : Type 0 where
  pub file_is : s.file ≡ e.file
  pub declared_is : slice_get e.schema place ≡ Some s.declared
  pub state_is : slice_get e.sets place ≡ Some s.state
  pub at_is : s.at ≡ e.at
  pub lines_are : s.lines ≡ e.lines place
