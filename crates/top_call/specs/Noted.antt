-- The note for a person beside a call's output.
use Rattle.std.specs.Prelude.{◌≡◌, ◌⊎◌, ℕ, true, List, codes, Bool, Option, Some}
use Rattle.command_words.specs.declared.form.AnswerForm.{AnswerForm}
use Rattle.command_words.specs.Words.{Command, IsCommand, IsNoCommand, IsSetsCommand}
use Rattle.token_notes.specs.Shown.{Begins, BeginsAtPlace, name_text}
use Rattle.key_answer.specs.declared.question.AnswerError.{AnswerError}
use Rattle.key_answer.specs.declared.question.AnswerError.TheVariants.{BadKey, Memory}
use Rattle.token_forms.specs.declared.token.Reason.{Reason}
use Rattle.fault_notes.specs.Told.{MayTell}
use Rattle.ruleset_sets.specs.Kept.{notes}
use Rattle.skip_notes.specs.Skips.{skips_text}
use Rattle.input_files.specs.declared.fault.FileFault.{FileFault}
use Rattle.input_files.specs.Noted.{IsNoteOn}
use Rattle.input_files.specs.Reads.{Shelved, StopsAt}
use Rattle.top_call.specs.Calls.{Call}
use Rattle.top_call.specs.Causes.{HasManySections, HasNoKey}
use Rattle.top_call.specs.Lines.{done_status, file_status}
use Rattle.script_laws.specs.declared.refusals.Refusal.{Refusal}
use Rattle.top_call.specs.Answers.{HasOutput, IsComplete}
use Rattle.top_call.specs.Refused.{AreRefused, IsNoteOnChanges, NamesScript}
use Rattle.top_call.specs.Unmet.{SaysUnmet, TellsUnmet}

-- A call has this status, or its sink failed.
abbrev pub Ended : ℕ → ℕ → Type 0
Ended due status = (status ≡ due) ⊎ (status ≡ 6)

-- What a note on the words begins with: the program's name, a colon and a space.
abbrev pub words_front : List ℕ
words_front = name_text (codes "pipapo")

-- The note on what isn't kept of the ruleset in this file, if its bytes are known: a line for each item and each part.
abbrev pub AreSkipsOf : (List ℕ → Option (List ℕ)) → List ℕ → List ℕ → Type 0
AreSkipsOf told file note = (text : List ℕ) → told file ≡ Some text → note ≡ skips_text file text (notes text)

-- The note on the error of a command without an output: on the words of a `get` that are no key, with a place in these words.
-- There is none on memory that ran out.
abbrev pub IsErrorNote : AnswerError → List ℕ → Type 0
IsErrorNote (BadKey line reason bad schema) note = BeginsAtPlace (codes "key") note
IsErrorNote Memory note = ⊥

-- What is printed beside such an error: that note, or nothing, if memory ran out.
abbrev pub TellsError : AnswerError → Option (List ℕ) → Option (List ℕ) → Type 0
TellsError (BadKey line reason bad schema) before now = MayTell (BeginsAtPlace (codes "key")) before now
TellsError Memory before now = now ≡ before

-- The notes that are due. One is on words that are no command and ask for no page. One begins with the name of a file that
-- can't be had, in its turn, and the place of what is wrong with its text. One begins with the name of a desk's script that
-- has too many sections. One begins with a place in the words of a `get` that are no key. One is on the command's refused changes. It has a line for each of the first 20, with the script's
-- name and the change's line, and how many more there are. One is on what isn't kept of a ruleset whose sets are written. It has a
-- line for each item and each part.
pub data IsDueNote (answer : AnswerForm) (words : List (List ℕ)) (shelf : Shelved) (status : ℕ) : List ℕ → Type 0 where
  on_words : (text : List ℕ) → IsNoCommand words → Begins words_front text → Ended 2 status → IsDueNote answer words shelf status text
  on_file : (c : Command) (fault : FileFault) (stops : StopsAt shelf c fault) (text : List ℕ) → IsCommand words c → IsNoteOn shelf.told stops.sets stops.input.name fault text → Ended (file_status fault) status → IsDueNote answer words shelf status text
  on_sections : (name text : List ℕ) → HasManySections words shelf name → Begins (name_text name) text → Ended 12 status → IsDueNote answer words shelf status text
  on_key : (line : ℕ) (reason : Reason) (text : List ℕ) → HasNoKey words shelf line reason → BeginsAtPlace (codes "key") text → Ended 13 status → IsDueNote answer words shelf status text
  on_changes : (c : Command) (name output text : List ℕ) (refusals : List Refusal) (failed : Bool) → HasOutput answer words shelf true output → IsCommand words c → NamesScript c name → AreRefused c shelf.told true output refusals failed → IsNoteOnChanges name refusals failed text → Ended 1 status → IsDueNote answer words shelf status text
  on_skips : (file output text : List ℕ) (refused : Bool) → HasOutput answer words shelf refused output → IsSetsCommand words file → AreSkipsOf shelf.told file text → Ended (done_status refused) status → IsDueNote answer words shelf status text

-- A call first writes the lines on the tests of its rules that no packet can meet: all of them, if its whole output was written.
-- After them it writes no note, or one note that is due.
pub record IsNoted (c : Call) : Type 0 where
  pub noted : Option (List ℕ)
  pub tests : SaysUnmet c.words c.shelf.told c.noted_before noted
  pub all_tests : IsComplete c.status → (d : Command) → IsCommand c.words d → TellsUnmet c.shelf.told d c.noted_before noted
  pub other : MayTell (IsDueNote c.answer c.words c.shelf c.status) noted c.noted_now
