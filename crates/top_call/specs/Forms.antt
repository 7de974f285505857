-- A call whose scripts are given as scripts or, with the option `--sets`, as rulesets. One statement serves both: the
-- call does with what is kept of its rulesets what it does with scripts. A comparison also counts the sets that are left out.
use Rattle.std.specs.Prelude.{◌≡◌, ◌≢◌, ◌⊎◌, ℕ, ◌==◌, Bool, true, false, ◌&&◌, if◌then◌else◌, List, [], All, Option}
use Rattle.command_words.specs.declared.form.ScriptForm.{ScriptForm}
use Rattle.command_words.specs.declared.form.ScriptForm.TheVariants as forms
use Rattle.command_words.specs.FormOptions.{scripts_of}
use Rattle.command_words.specs.Words.{Command, IsCommand, compare}
use Rattle.pip_base.specs.Notes.{Tells}
use Rattle.token_notes.specs.Shown.{IsNoteByte}
use Rattle.input_files.specs.Seen.{AreAllSkips, seen}
use Rattle.top_call.specs.Answers.{IsComplete}
use Rattle.top_call.specs.Calls.{Call}

-- These files are rulesets: the scripts of the words' command, if they are given so.
abbrev pub AreRulesets : ScriptForm → List (List ℕ) → List (List ℕ) → Type 0
AreRulesets forms.Script words names = names ≡ []
AreRulesets forms.Ruleset words names = (c : Command) → IsCommand words c → names ≡ scripts_of c

-- The lines on these files were written, if there are any: one for each item and each part that isn't kept of those that
-- are rulesets, if their bytes are known. Also whether a set, or a statement on one, is left out of one of them.
pub record TellsSkips (told : List ℕ → Option (List ℕ)) (rulesets asked : List (List ℕ)) (before now : Option (List ℕ)) (leaves : Bool) : Type 0 where
  pub lines : List ℕ
  pub are : AreAllSkips told rulesets asked lines leaves
  pub quiet : All IsNoteByte lines
  pub none : lines ≡ [] → now ≡ before
  pub some : lines ≢ [] → Tells before now lines

-- What is noted before everything else. It is nothing if scripts are given as scripts. If they are rulesets, it is nothing
-- or all lines on them.
abbrev pub SaysSkips : ScriptForm → (List ℕ → Option (List ℕ)) → List (List ℕ) → List (List ℕ) → Option (List ℕ) → Option (List ℕ) → Bool → Type 0
SaysSkips forms.Script told rulesets asked before now leaves = now ≡ before
SaysSkips forms.Ruleset told rulesets asked before now leaves = (now ≡ before) ⊎ TellsSkips told rulesets asked before now leaves

-- A set that is left out counts for this command: a comparison says nothing of it, so not all sets are the same.
abbrev pub counts_left_out : Command → Bool
counts_left_out (compare first second keep_going) = true
counts_left_out _ = false

-- The status of an output, by the status without what is left out.
abbrev pub with_left_out : Bool → ℕ → ℕ
with_left_out leaves status = if leaves && (status == 0) then 1 else status

-- A call has this status. Without what is left out of its rulesets, it has the other one.
pub record CountsLeftOut (words : List (List ℕ)) (leaves : Bool) (other status : ℕ) : Type 0 where
  pub of_command : (c : Command) → IsCommand words c → status ≡ with_left_out (counts_left_out c && leaves) other
  pub of_others : ((c : Command) → IsCommand words c → ⊥) → status ≡ other

-- The call as it is on what is seen of its files: of these rulesets what is kept of them. What was noted before, and the status
-- without what is left out, are these.
abbrev pub seen_call : List (List ℕ) → Option (List ℕ) → ℕ → Call → Call
seen_call rulesets noted status c = record {
  words = c.words;
  answer = c.answer;
  shelf = record { told = seen rulesets c.shelf.told; asked = c.shelf.asked; faults_before = c.shelf.faults_before; faults_now = c.shelf.faults_now; picked_before = c.shelf.picked_before; picked_now = c.shelf.picked_now; left = c.shelf.left };
  taken_before = c.taken_before;
  taken_now = c.taken_now;
  faults_before = c.faults_before;
  faults_now = c.faults_now;
  noted_before = noted;
  noted_now = c.noted_now;
  status = status;
}

-- This holds of a call whose scripts are given in this form. What isn't kept is noted first; if the output was written
-- whole, all of it is. A comparison counts the sets that are left out. Of the call on what is seen of its files, with these notes
-- before it and the status without what is left out, this holds.
pub record InForm (form : ScriptForm) (c : Call) (Holds : Call → Type 0) : Type 0 where
  pub rulesets : List (List ℕ)
  pub noted : Option (List ℕ)
  pub leaves : Bool
  pub status : ℕ
  pub are_rulesets : AreRulesets form c.words rulesets
  pub skips : SaysSkips form c.shelf.told rulesets c.shelf.asked c.noted_before noted leaves
  pub all_said : IsComplete c.status → TellsSkips c.shelf.told rulesets c.shelf.asked c.noted_before noted leaves
  pub counts : CountsLeftOut c.words leaves status c.status
  pub holds : Holds (seen_call rulesets noted status c)
