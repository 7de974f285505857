-- Why a command ends without its output.
use Rattle.std.specs.Borrow.{Bor}
use Rattle.std.specs.Prelude.{◌≡◌, ◌⊎◌, ◌<◌, ℕ, Bool, List, [], length, Option}
use Rattle.token_forms.specs.declared.token.Reason.{Reason}
use Rattle.key_answer.specs.Question.{IsBadKey}
use Rattle.set_model.specs.declared.script.Script.{Script}
use Rattle.set_script.specs.ScriptText.{IsScriptText}
use Rattle.command_words.specs.Words.{Command, IsCommand, IsNoCommand, IsDeskCommand, IsGetCommand, desk, get}
use Rattle.input_files.specs.declared.fault.FileFault.{FileFault}
use Rattle.input_files.specs.Inputs.{ReadsAs}
use Rattle.input_files.specs.Reads.{Shelved, HasRead, StopsAt}
use Rattle.top_call.specs.declared.fault.Fault.{Fault}
use Rattle.top_call.specs.declared.fault.Fault.TheVariants.{Usage, File, TooManyClerks, BadKey, Memory}
use Rattle.top_call.specs.Transcript.{most_sections}

-- The words are a desk. Its script was read, and has more sections than a desk may have.
pub record HasManySections (words : List (List ℕ)) (shelf : Shelved) (name : List ℕ) : Type 0 where
  pub keep_going : Bool
  pub script : Script
  pub is_desk : IsDeskCommand words name keep_going
  pub has_read : HasRead shelf (desk name keep_going)
  pub reads : ReadsAs shelf.told name (λ text. IsScriptText text script)
  pub many : most_sections < length script.sections

-- The words are a `get`. Its script was read, and the words of its key are no key of the script's sets.
pub record HasNoKey (words : List (List ℕ)) (shelf : Shelved) (line : ℕ) (reason : Reason) : Type 0 where
  pub name : List ℕ
  pub key : List (List ℕ)
  pub moment : Option ℕ
  pub keep_going : Bool
  pub script : Script
  pub is_get : IsGetCommand words name key moment keep_going
  pub has_read : HasRead shelf (get name key moment keep_going)
  pub reads : ReadsAs shelf.told name (λ text. IsScriptText text script)
  pub bad : IsBadKey script.schema key line reason

-- The cause of a fault: the words are no command, and no file was asked for; or one of the command's files can't be
-- had, in its turn; or a desk's script has too many sections, or the words of a `get` are no key; or memory ran out, before the first file or after the
-- last.
pub data IsCause (words : List (List ℕ)) (shelf : Shelved) : Fault → Type 0 where
  no_command : IsNoCommand words → shelf.asked ≡ [] → shelf.faults_now ≡ shelf.faults_before → IsCause words shelf Usage
  of_file : (c : Command) (fault : FileFault) → IsCommand words c → StopsAt shelf c fault → IsCause words shelf (File fault)
  too_many : (name : Bor (List ℕ)) → HasManySections words shelf name.now → IsCause words shelf (TooManyClerks name)
  bad_key : (line : ℕ) (reason : Reason) → HasNoKey words shelf line reason → IsCause words shelf (BadKey line reason)
  no_memory : (c : Command) → IsCommand words c → (shelf.asked ≡ []) ⊎ HasRead shelf c → shelf.faults_now ≡ shelf.faults_before → IsCause words shelf Memory
