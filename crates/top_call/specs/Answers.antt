-- How a call ends: the status, what the sink took, and the counts of faults. What this means for each command.
use Rattle.std.specs.Prelude.{Bool, ◌≡◌, ◌⊎◌, ℕ, List, [], ◌∷◌, ◌++◌, Option, Some}
use Rattle.std.specs.Io.KnownBytes.{Appends, Keeps}
use Rattle.pip_base.specs.Causes.{Rose}
use Rattle.pip_base.specs.Whole.{AppendsFront}
use Rattle.set_model.specs.Control.{mode_of}
use Rattle.token_forms.specs.declared.token.Reason.{Reason}
use Rattle.script_run.specs.Drill.{drill_text}
use Rattle.command_words.specs.declared.form.AnswerForm.{AnswerForm}
use Rattle.command_words.specs.declared.page.Page.{Page}
use Rattle.command_words.specs.WordForms.{page_text}
use Rattle.command_words.specs.Words.{Command, IsCommand, AsksFor, IsRunCommand, IsListCommand, IsDumpCommand, IsDrillCommand, IsJudgeCommand, IsCaptureCommand, IsDeskCommand, IsGetCommand, IsExplainCommand, IsCompareCommand, IsStatCommand, IsJudgeCaptureCommand, IsSetsCommand}
use Rattle.input_files.specs.declared.fault.Flaw.{Flaw}
use Rattle.input_files.specs.declared.fault.FileFault.TheVariants.{Bad}
use Rattle.input_files.specs.Inputs.{form_of}
use Rattle.input_files.specs.Reads.{Shelved, HasRead, StopsAt}
use Rattle.top_call.specs.declared.fault.Fault.{Fault}
use Rattle.top_call.specs.Transcript.{IsOutput, IsTranscript, IsJudgement, IsCaptured, IsListing, IsTables, IsWovenOf, IsAnswerOf, IsExplanationOf, IsComparisonOf, IsStat, IsJudgedCapture, AreSetsIn}
use Rattle.top_call.specs.Calls.{Call}
use Rattle.top_call.specs.Causes.{IsCause, HasManySections, HasNoKey}
use Rattle.top_call.specs.Lines.{done_status, form_status, status_of, fault_line, flaw_line, read_fault_line, too_many_line, bad_key_line}

-- The command of these words has this output, in the form of this answer: all its files were asked for and read, no fault was counted, and this
-- is what the command does.
pub record HasOutput (answer : AnswerForm) (words : List (List ℕ)) (shelf : Shelved) (refused : Bool) (text : List ℕ) : Type 0 where
  pub command : Command
  pub is_command : IsCommand words command
  pub has_read : HasRead shelf command
  pub is_output : IsOutput answer command shelf.told refused text

-- The status and text that are due. A command's output has 0 or 1. A page has 0, if the words ask for it and no file
-- was asked for. A fault has its own status and line, if its cause is there.
pub data IsDue (answer : AnswerForm) (words : List (List ℕ)) (shelf : Shelved) : ℕ → List ℕ → Type 0 where
  output : (refused : Bool) (text : List ℕ) → HasOutput answer words shelf refused text → IsDue answer words shelf (done_status refused) text
  page : (p : Page) → AsksFor words p → shelf.asked ≡ [] → shelf.faults_now ≡ shelf.faults_before → IsDue answer words shelf 0 (page_text p)
  refusal : (fault : Fault) → IsCause words shelf fault → IsDue answer words shelf (status_of fault) (fault_line fault)

-- this status and this text, and no other
abbrev pub IsExactly : ℕ → List ℕ → ℕ → List ℕ → Type 0
IsExactly status text other_status other_text = (other_status ≡ status) × (other_text ≡ text)

-- A call ends by its status: the text that is due was written whole; or the sink failed after a front of it; or
-- memory ran out, and nothing was written.
pub data Ends (due : ℕ → List ℕ → Type 0) (taken_before taken_now : Option (List ℕ)) (before now : ℕ) : ℕ → Type 0 where
  written : (status : ℕ) (text : List ℕ) → due status text → Appends taken_before taken_now text → now ≡ before → Ends due taken_before taken_now before now status
  cut : (status : ℕ) (text : List ℕ) → due status text → AppendsFront taken_before taken_now text → Rose before now → Ends due taken_before taken_now before now 6
  memory : due 7 [] → Keeps taken_before taken_now → now ≡ before → Ends due taken_before taken_now before now 7

-- A call ends with what is due to its words and files.
abbrev pub EndsDuly : Call → Type 0
EndsDuly c = Ends (IsDue c.answer c.words c.shelf) c.taken_before c.taken_now c.faults_before c.faults_now c.status

-- the whole output was written
abbrev pub IsComplete : ℕ → Type 0
IsComplete result = (result ≡ 0) ⊎ (result ≡ 1)

-- What the sink took in a call is an output with this property, if the sink shows what it took. The status is 1
-- exactly if the output reports a refusal.
abbrev pub Writes : (Bool → List ℕ → Type 0) → Call → Type 0
Writes IsText c =
    (before now : List ℕ) → c.taken_before ≡ Some before → c.taken_now ≡ Some now
    → (refused : Bool) × (output : List ℕ) × (c.status ≡ done_status refused) × (now ≡ before ++ output) × IsText refused output

-- The headline, of a call that ended with status 0 or 1. The words are a run, and the shelf shows the bytes under
-- both names. Then the sink took the text of a legal transcript of the script and the key file, with as many packet
-- threads as the words say. The status is 1 exactly if a change is refused.
abbrev pub Transcribes : Call → Type 0
Transcribes c =
    (script keys script_text keys_text : List ℕ) (threads : ℕ) (keep_going : Bool) → IsRunCommand c.words script keys threads keep_going → c.shelf.told script ≡ Some script_text → c.shelf.told keys ≡ Some keys_text
    → Writes (IsTranscript c.answer script_text keys_text threads (mode_of keep_going)) c

-- The same of a rules file's chains, which judge each packet by the sets of one generation.
abbrev pub Judges : Call → Type 0
Judges c =
    (script rules keys script_text rules_text keys_text : List ℕ) (threads : ℕ) (keep_going : Bool) → IsJudgeCommand c.words script rules keys threads keep_going
    → c.shelf.told script ≡ Some script_text → c.shelf.told rules ≡ Some rules_text → c.shelf.told keys ≡ Some keys_text
    → Writes (IsJudgement script_text rules_text keys_text threads (mode_of keep_going)) c

-- The same of a capture's packets, which the plan takes from the capture.
abbrev pub Captures : Call → Type 0
Captures c =
    (script plan packets script_text plan_text capture_text : List ℕ) (threads : ℕ) (keep_going : Bool) → IsCaptureCommand c.words script plan packets threads keep_going
    → c.shelf.told script ≡ Some script_text → c.shelf.told plan ≡ Some plan_text → c.shelf.told packets ≡ Some capture_text
    → Writes (IsCaptured c.answer script_text plan_text capture_text threads (mode_of keep_going)) c

-- The same of both: chains judge the packets that the plan takes from the capture.
abbrev pub JudgesCaptures : Call → Type 0
JudgesCaptures c =
    (script rules plan packets script_text rules_text plan_text capture_text : List ℕ) (threads : ℕ) (keep_going : Bool) → IsJudgeCaptureCommand c.words script rules plan packets threads keep_going
    → c.shelf.told script ≡ Some script_text → c.shelf.told rules ≡ Some rules_text → c.shelf.told plan ≡ Some plan_text → c.shelf.told packets ≡ Some capture_text
    → Writes (IsJudgedCapture script_text rules_text plan_text capture_text threads (mode_of keep_going)) c

-- The same of a listing: the sink took what the script's control reported, and then the listing of the script; or the listing as
-- JSON, if the words ask for it.
abbrev pub Lists : Call → Type 0
Lists c = (script script_text : List ℕ) (keep_going : Bool) → IsListCommand c.words script keep_going → c.shelf.told script ≡ Some script_text → Writes (IsListing c.answer script_text (mode_of keep_going)) c

-- The same of a dump: the sink took what the script's control reported, and then the tables of the script's sets.
abbrev pub Dumps : Call → Type 0
Dumps c = (script script_text : List ℕ) (keep_going : Bool) → IsDumpCommand c.words script keep_going → c.shelf.told script ≡ Some script_text → Writes (IsTables script_text (mode_of keep_going)) c

-- The same of a `stat`: the sink took what the script's control reported, and then the figures of the script's sets.
abbrev pub Counts : Call → Type 0
Counts c = (script script_text : List ℕ) (keep_going : Bool) → IsStatCommand c.words script keep_going → c.shelf.told script ≡ Some script_text → Writes (IsStat script_text (mode_of keep_going)) c

-- The same of a desk. The sink took the reports of the script's first section. The reports of each transaction of the
-- other sections' control threads follow, in the order of the transactions, and then their last generation.
abbrev pub Weaves : Call → Type 0
Weaves c = (script script_text : List ℕ) (keep_going : Bool) → IsDeskCommand c.words script keep_going → c.shelf.told script ≡ Some script_text → Writes (IsWovenOf script_text keep_going) c

-- The same of a `get`. The sink took the refused changes, and then the earliest live element of the last generation that
-- holds the key, with the line that added it, or `none` if there is no such element.
abbrev pub AnswersKeys : Call → Type 0
AnswersKeys c = (script script_text : List ℕ) (key : List (List ℕ)) (moment : Option ℕ) (keep_going : Bool) → IsGetCommand c.words script key moment keep_going → c.shelf.told script ≡ Some script_text → Writes (IsAnswerOf script_text key moment (mode_of keep_going)) c

-- The same of an `explain`. The sink took the refused changes, and then for each packet of the key file what its answer is, and
-- why.
abbrev pub ExplainsKeys : Call → Type 0
ExplainsKeys c = (script keys script_text keys_text : List ℕ) (keep_going : Bool) → IsExplainCommand c.words script keys keep_going → c.shelf.told script ≡ Some script_text → c.shelf.told keys ≡ Some keys_text
    → Writes (IsExplanationOf script_text keys_text (mode_of keep_going)) c

-- The same of a `compare`. The sink took the refused changes of both scripts, and then for each set whether it is the same: for
-- each key that fits both have an element, or neither has. The least key on which they differ comes with the first live
-- element that holds it, and the line that added this element.
abbrev pub Compares : Call → Type 0
Compares c = (first second first_text second_text : List ℕ) (keep_going : Bool) → IsCompareCommand c.words first second keep_going → c.shelf.told first ≡ Some first_text → c.shelf.told second ≡ Some second_text
    → Writes (IsComparisonOf first first_text second second_text (mode_of keep_going)) c

-- The same of the sets of a ruleset. The sink took what is kept of it, which is a script.
abbrev pub WritesSets : Call → Type 0
WritesSets c = (file text : List ℕ) → IsSetsCommand c.words file → c.shelf.told file ≡ Some text → Writes (AreSetsIn text) c

-- A text was written whole, and the status is 0.
pub record Delivers (text : List ℕ) (c : Call) : Type 0 where
  pub written : Appends c.taken_before c.taken_now text
  pub status : c.status ≡ 0

-- The same of a drill, with any number of packet threads: the sink took the drill's line, and the status is 0.
abbrev pub Drills : Call → Type 0
Drills c = (seed count threads : ℕ) → IsDrillCommand c.words seed count threads → Delivers (drill_text seed count) c

-- The same of a page: the sink took the page that the words ask for, and the status is 0.
abbrev pub TellsPage : Call → Type 0
TellsPage c = (p : Page) → AsksFor c.words p → Delivers (page_text p) c

-- A read fault was reported: the line names the last name that was asked for, and the shelf's count rose.
pub record TellsReadFault (c : Call) : Type 0 where
  pub front : List (List ℕ)
  pub name : List ℕ
  pub last : c.shelf.asked ≡ front ++ name ∷ []
  pub rose : Rose c.shelf.faults_before c.shelf.faults_now
  pub line : Appends c.taken_before c.taken_now (read_fault_line name)

-- The line of a file with this status was written: the file came to its turn, and isn't of its form.
pub record TellsFlaw (status : ℕ) (c : Call) : Type 0 where
  pub command : Command
  pub flaw : Flaw
  pub is_command : IsCommand c.words command
  pub stops : StopsAt c.shelf command (Bad flaw)
  pub of_status : form_status (form_of flaw) ≡ status
  pub written : Appends c.taken_before c.taken_now (flaw_line flaw)

-- The line of a desk's script with too many sections was written, with the script's name.
pub record TellsTooMany (c : Call) : Type 0 where
  pub name : List ℕ
  pub has_many : HasManySections c.words c.shelf name
  pub written : Appends c.taken_before c.taken_now (too_many_line name)

-- The line of words that are no key was written.
pub record TellsBadKey (c : Call) : Type 0 where
  pub line : ℕ
  pub reason : Reason
  pub has_none : HasNoKey c.words c.shelf line reason
  pub written : Appends c.taken_before c.taken_now (bad_key_line line reason)
