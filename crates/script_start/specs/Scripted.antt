-- A control that did a script, and why a text starts none.
use Rattle.std.specs.Prelude.{◌≡◌, ℕ, List, length, Some, None}
use Rattle.set_model.specs.declared.script.Script.{Script}
use Rattle.set_model.specs.declared.script.SetDecl.{SetDecl}
use Rattle.set_model.specs.declared.script.Step.{Step}
use Rattle.set_model.specs.Control.{Control, Strict, history}
use Rattle.set_space.specs.Open.{opened}
use Rattle.gen_publish.specs.Publish.{Steering, ReaderView, AllFresh}
use Rattle.token_forms.specs.BadTokens.{IsBadTokenOf}
use Rattle.set_script.specs.Script.{script}
use Rattle.set_script.specs.ScriptText.{IsScriptText}
use Rattle.script_start.specs.Refusals.{refusal_in}
use Rattle.script_start.specs.declared.error.StartError.{StartError}
use Rattle.script_start.specs.declared.error.StartError.TheVariants.{Bad, Refused, Memory}

-- the definition's control after all sections; a refused change fails its transaction
abbrev pub done : List SetDecl → List (List Step) → Control
done schema sections = history Strict schema sections

-- A control did all sections: it has these sets, and the definition's committed generations. No change was refused, and none
-- is open.
pub record HasDone (schema : List SetDecl) (sections : List (List Step)) (c : Steering) : Type 0 where
  pub sets : c.schema ≡ schema
  pub accepted : refusal_in (done schema sections).events ≡ None
  pub committed : c.committed ≡ (done schema sections).committed
  pub no_change : c.work ≡ opened (done schema sections).last

-- A control has so many readers, and these are they, numbered from 0 on. Each has seen all that is committed.
pub record HasReaders (count : ℕ) (c : Steering) (readers : List ReaderView) : Type 0 where
  pub count_is : c.readers ≡ count
  pub these : length readers ≡ count
  pub fresh : AllFresh c.of c.schema c.committed 0 readers

-- A control did the script that a text means, and has these readers.
pub record IsStarted (text : List ℕ) (count : ℕ) (c : Steering) (readers : List ReaderView) : Type 0 where
  pub meant : Script
  pub is_text : IsScriptText text meant
  pub has_done : HasDone meant.schema meant.sections c
  pub has_readers : HasReaders count c readers

-- Why sections aren't all done: this is the first refused change, or memory ran out.
abbrev pub RefusesSections : List SetDecl → List (List Step) → StartError → Type 0
RefusesSections schema sections (Bad token) = ⊥
RefusesSections schema sections (Refused line set why) = refusal_in (done schema sections).events ≡ Some (Refused line set why)
RefusesSections schema sections Memory = Unit {0}

-- Why a text starts nothing: this is its bad token; or it is a script, of which this is the first refused change; or memory
-- ran out.
abbrev pub RefusesText : List ℕ → StartError → Type 0
RefusesText text (Bad token) = IsBadTokenOf script text (Some token)
RefusesText text (Refused line set why) = (s : Script) × IsScriptText text s × RefusesSections s.schema s.sections (Refused line set why)
RefusesText text Memory = Unit {0}
