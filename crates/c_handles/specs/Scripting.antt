-- What a start by a script's text makes, and why it is refused.
use Rattle.std.specs.Prelude.{◌≡◌, ◌⊎◌, ℕ, List, length, Option, Some, None}
use Rattle.set_model.specs.declared.script.Script.{Script}
use Rattle.gen_publish.specs.Publish.{Steering}
use Rattle.set_script.specs.ScriptText.{IsScriptText}
use Rattle.script_start.specs.Scripted.{HasDone, RefusesText}
use Rattle.script_start.specs.declared.error.StartError.{StartError}
use Rattle.c_handles.specs.Codes.{code_of}
use Rattle.c_handles.specs.ScriptCodes.{place_of, no_place, fault_of_start}
use Rattle.c_handles.specs.Starting.{HoldReaders}
use Rattle.c_handles.specs.StartCauses.{IsReaderCount, IsNoReaderCount}
use Rattle.c_handles.specs.declared.fault.Fault.TheVariants.{Readers}
use Rattle.c_handles.specs.declared.script_fault.ScriptFault.{ScriptFault}
use Rattle.c_handles.specs.declared.object.Object.{Object}
use Rattle.c_handles.specs.declared.object.Object.TheVariants.{Control, Reader, Elements}

-- A control did the script that a text means. Each of these handles holds one of its readers, which has seen all that is
-- committed, and it has no others.
pub record IsScripted (text : List ℕ) (c : Steering) (readers : List (Option Object)) : Type 0 where
  pub meant : Script
  pub is_text : IsScriptText text meant
  pub has_done : HasDone meant.schema meant.sections c
  pub count : c.readers ≡ length readers
  pub seats : HoldReaders c 0 readers

abbrev pub HasScripted : List ℕ → Option Object → List (Option Object) → Type 0
HasScripted text (Some (Control c)) readers = IsScripted text c readers
HasScripted text (Some (Reader s)) readers = ⊥
HasScripted text (Some (Elements e)) readers = ⊥
HasScripted text None readers = ⊥

-- A start by a text was refused, with this number and this place: there are too few or too many readers, or the text starts
-- nothing.
abbrev pub IsRefusedText : List ℕ → ℕ → ℕ → ScriptFault → Type 0
IsRefusedText text readers code place =
    (IsNoReaderCount readers × (code ≡ code_of Readers) × (place ≡ no_place))
    ⊎ (IsReaderCount readers × ((error : StartError) × RefusesText text error × (code ≡ code_of (fault_of_start error)) × (place ≡ place_of error)))
