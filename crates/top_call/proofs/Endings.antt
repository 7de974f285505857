-- How a call ends, and what follows of its status.
use Rattle.std.proofs.Common.{Bool, true, false, refl, ◌≤◌, ◌≡◌, ◌∙◌, ap, subst, ℕ, List, [], ◌++◌, Option, Some, inl, inr, arith}
use Rattle.std.specs.Io.KnownBytes.{Appends}
use Rattle.pip_base.specs.Causes.{Rose}
use Rattle.set_model.specs.Control.{mode_of}
use Rattle.script_run.specs.Drill.{drill_text}
use Rattle.command_words.specs.declared.form.AnswerForm.{AnswerForm}
use Rattle.command_words.specs.declared.page.Page.{Page}
use Rattle.command_words.specs.WordForms.{page_text}
use Rattle.command_words.specs.Words.{Command, run, list, dump, drill, judge, capture, desk, get, explain, compare, stat, IsCommand, AsksFor, IsDrillCommand, judge_capture, sets_of}
use Rattle.command_words.proofs.CommandWords.{one-command}
use Rattle.command_words.proofs.PageWords.{page-no-command, one-page}
use Rattle.input_files.specs.declared.fault.FileFault.{FileFault}
use Rattle.input_files.specs.declared.fault.FileFault.TheVariants as files
use Rattle.input_files.specs.Inputs as forms
use Rattle.input_files.specs.Inputs.{FileForm, form_of}
use Rattle.input_files.specs.Reads.{Shelved}
use Rattle.top_call.specs.declared.fault.Fault.{Fault}
use Rattle.top_call.specs.declared.fault.Fault.TheVariants.{Usage, File, TooManyClerks, BadKey, Memory}
use Rattle.top_call.specs.Transcript.{IsOutput, IsTranscript, IsJudgement, IsCaptured, IsListing, IsTables, IsWovenOf, IsAnswerOf, IsExplanationOf, IsComparisonOf, IsStat, IsJudgedCapture, AreSetsIn}
use Rattle.top_call.specs.Calls.{Call}
use Rattle.top_call.specs.Causes.{IsCause, no_command, of_file, too_many, bad_key, no_memory}
use Rattle.top_call.specs.Lines.{done_status, form_status, file_status, status_of, fault_line}
use Rattle.top_call.specs.Answers.{Ends, EndsDuly, written, cut, memory, IsDue, output, page, refusal, IsExactly, HasOutput, IsComplete, Writes, Transcribes, Judges, Captures, Lists, Dumps, Counts, Weaves, AnswersKeys, ExplainsKeys, Compares, Drills, Delivers, TellsPage, JudgesCaptures, WritesSets}

-- an output's status is 0 or 1, and a fault's status is greater
pub done-small : (refused : Bool) → done_status refused ≤ 1
done-small true = omega arith
done-small false = omega arith

pub not-done : (n : ℕ) → 2 ≤ n → IsComplete n → ⊥
not-done n h (inl e) = omega (arith, h, e)
not-done n h (inr e) = omega (arith, h, e)

form-above : (form : FileForm) → 2 ≤ form_status form
form-above forms.script = omega arith
form-above forms.second = omega arith
form-above forms.rules_of_nft = omega arith
form-above forms.keys = omega arith
form-above forms.rules = omega arith
form-above forms.plan = omega arith
form-above forms.capture = omega arith

pub file-above : (f : FileFault) → 2 ≤ file_status f
file-above (files.Bad flaw) = form-above (form_of flaw)
file-above (files.ReadFault name) = omega arith
file-above (files.TooLarge name) = omega arith
file-above files.Memory = omega arith

fault-above : (f : Fault) → 2 ≤ status_of f
fault-above Usage = omega arith
fault-above (File f) = file-above f
fault-above (TooManyClerks name) = omega arith
fault-above (BadKey line reason) = omega arith
fault-above Memory = omega arith

pub fault-not-done : (fault : Fault) (line : List ℕ) (taken_before taken_now : Option (List ℕ)) (b n result : ℕ) → Ends (IsExactly (status_of fault) line) taken_before taken_now b n result → IsComplete result → ⊥
fault-not-done fault line taken_before taken_now b n result (written status text due appends quiet) e = not-done status (let d = due.0 in let f = fault-above fault in omega (arith, d, f)) e
fault-not-done fault line taken_before taken_now b n result (cut status text due front rose) e = not-done 6 (omega arith) e
fault-not-done fault line taken_before taken_now b n result (memory due keeps quiet) e = not-done 7 (omega arith) e

-- what a command of these words does
pub does : (answer : AnswerForm) (words : List (List ℕ)) (shelf : Shelved) (c : Command) (refused : Bool) (text : List ℕ) → IsCommand words c → HasOutput answer words shelf refused text → IsOutput answer c shelf.told refused text
does answer words shelf c refused text is_c has = subst (λ (x : Command). IsOutput answer x shelf.told refused text) (one-command words has.command c has.is_command is_c) has.is_output

-- The whole output was written.
pub record Wrote (answer : AnswerForm) (words : List (List ℕ)) (shelf : Shelved) (taken_before taken_now : Option (List ℕ)) (result : ℕ) : Type 0 where
  pub refused : Bool
  pub text : List ℕ
  pub status : result ≡ done_status refused
  pub has : HasOutput answer words shelf refused text
  pub appends : Appends taken_before taken_now text

module _ (answer : AnswerForm) (words : List (List ℕ)) (shelf : Shelved) (taken_before taken_now : Option (List ℕ)) where
  due-wrote : (status : ℕ) (text : List ℕ) → IsDue answer words shelf status text → IsComplete status → Appends taken_before taken_now text → ((p : Page) → AsksFor words p → ⊥) → Wrote answer words shelf taken_before taken_now status
  due-wrote status text (page p asks nothing quiet) e appends none = absurd (none p asks)
  due-wrote status text (output refused t has) e appends none = record { refused = refused; text = t; status = refl; has = has; appends = appends }
  due-wrote status text (refusal fault cause) e appends none = absurd (not-done (status_of fault) (fault-above fault) e)

  wrote : (b n result : ℕ) → Ends (IsDue answer words shelf) taken_before taken_now b n result → IsComplete result → ((p : Page) → AsksFor words p → ⊥) → Wrote answer words shelf taken_before taken_now result
  wrote b n result (written status text due appends quiet) e none = due-wrote status text due e appends none
  wrote b n result (cut status text due front rose) e none = absurd (not-done 6 (omega arith) e)
  wrote b n result (memory due keeps quiet) e none = absurd (not-done 7 (omega arith) e)

-- If the words ask for a page, the page is due and nothing else.
module _ (answer : AnswerForm) (words : List (List ℕ)) (shelf : Shelved) (p : Page) (asks : AsksFor words p) where
  no-cause : (fault : Fault) → IsCause words shelf fault → ⊥
  no-cause fault (no_command none nothing same) = none.no_page p asks
  no-cause fault (of_file c f is_c stops) = page-no-command words p c asks is_c
  no-cause fault (too_many name h) = page-no-command words p (desk name.now h.keep_going) asks h.is_desk
  no-cause fault (bad_key line reason h) = page-no-command words p (get h.name h.key h.moment h.keep_going) asks h.is_get
  no-cause fault (no_memory c is_c asked same) = page-no-command words p c asks is_c

  due-page : (status : ℕ) (text : List ℕ) → IsDue answer words shelf status text → (status ≡ 0) × (text ≡ page_text p)
  due-page status text (output refused t has) = absurd (page-no-command words p has.command asks has.is_command)
  due-page status text (page q asks_other nothing quiet) = (refl, ap page_text (one-page words q p asks_other asks))
  due-page status text (refusal fault cause) = absurd (no-cause fault cause)

  -- If nothing failed outside the page is written: memory can't run out for it.
  pub page-ends : (taken_before taken_now : Option (List ℕ)) (b n result : ℕ) → Ends (IsDue answer words shelf) taken_before taken_now b n result → (result ≡ 6 → ⊥) → (result ≡ 0) × Appends taken_before taken_now (page_text p)
  page-ends taken_before taken_now b n result (written status text due appends quiet) not_six = let d = due-page status text due in (d.0, subst (λ (t : List ℕ). Appends taken_before taken_now t) d.1 appends)
  page-ends taken_before taken_now b n result (cut status text due front rose) not_six = absurd (not_six refl)
  page-ends taken_before taken_now b n result (memory due keeps quiet) not_six = absurd (let d = (due-page 7 [] due).0 in omega (arith, d))

module _ (c : Call) where
  abbrev pub HasWritten : Type 0
  HasWritten = Wrote c.answer c.words c.shelf c.taken_before c.taken_now c.status

  writes : (IsText : Bool → List ℕ → Type 0) (w : HasWritten) → IsText w.refused w.text → Writes IsText c
  writes IsText w is_text old new is_old is_new =
      let grown : new ≡ old ++ w.text = subst (λ (o : Option (List ℕ)). Appends (Some old) o w.text) is_new (subst (λ (o : Option (List ℕ)). Appends o c.taken_now w.text) is_old w.appends) in
      (w.refused, w.text, w.status, grown, is_text)

  of-command : EndsDuly c → IsComplete c.status → (d : Command) → IsCommand c.words d → HasWritten
  of-command ends e d is_d = wrote c.answer c.words c.shelf c.taken_before c.taken_now c.faults_before c.faults_now c.status ends e (λ p asks. page-no-command c.words p d asks is_d)

  -- The headline, and the same of the other commands.
  pub transcribes : EndsDuly c → IsComplete c.status → Transcribes c
  transcribes ends e script keys script_text keys_text threads keep_going is_run at at_keys =
      let w = of-command ends e (run script keys threads keep_going) is_run in
      writes (IsTranscript c.answer script_text keys_text threads (mode_of keep_going)) w (does c.answer c.words c.shelf (run script keys threads keep_going) w.refused w.text is_run w.has script_text keys_text at at_keys)

  pub judges : EndsDuly c → IsComplete c.status → Judges c
  judges ends e script rules keys script_text rules_text keys_text threads keep_going is_judge at at_rules at_keys =
      let d = judge script rules keys threads keep_going in
      let w = of-command ends e d is_judge in
      writes (IsJudgement script_text rules_text keys_text threads (mode_of keep_going)) w (does c.answer c.words c.shelf d w.refused w.text is_judge w.has script_text rules_text keys_text at at_rules at_keys)

  pub captures : EndsDuly c → IsComplete c.status → Captures c
  captures ends e script plan packets script_text plan_text capture_text threads keep_going is_capture at at_plan at_capture =
      let d = capture script plan packets threads keep_going in
      let w = of-command ends e d is_capture in
      writes (IsCaptured c.answer script_text plan_text capture_text threads (mode_of keep_going)) w (does c.answer c.words c.shelf d w.refused w.text is_capture w.has script_text plan_text capture_text at at_plan at_capture)

  pub judges-captures : EndsDuly c → IsComplete c.status → JudgesCaptures c
  judges-captures ends e script rules plan packets script_text rules_text plan_text capture_text threads keep_going is_judge at at_rules at_plan at_capture =
      let d = judge_capture script rules plan packets threads keep_going in
      let w = of-command ends e d is_judge in
      writes (IsJudgedCapture script_text rules_text plan_text capture_text threads (mode_of keep_going)) w (does c.answer c.words c.shelf d w.refused w.text is_judge w.has script_text rules_text plan_text capture_text at at_rules at_plan at_capture)

  pub lists : EndsDuly c → IsComplete c.status → Lists c
  lists ends e script script_text keep_going is_list at =
      let w = of-command ends e (list script keep_going) is_list in
      writes (IsListing c.answer script_text (mode_of keep_going)) w (does c.answer c.words c.shelf (list script keep_going) w.refused w.text is_list w.has script_text at)

  pub dumps : EndsDuly c → IsComplete c.status → Dumps c
  dumps ends e script script_text keep_going is_dump at =
      let w = of-command ends e (dump script keep_going) is_dump in
      writes (IsTables script_text (mode_of keep_going)) w (does c.answer c.words c.shelf (dump script keep_going) w.refused w.text is_dump w.has script_text at)

  pub counts : EndsDuly c → IsComplete c.status → Counts c
  counts ends e script script_text keep_going is_stat at =
      let w = of-command ends e (stat script keep_going) is_stat in
      writes (IsStat script_text (mode_of keep_going)) w (does c.answer c.words c.shelf (stat script keep_going) w.refused w.text is_stat w.has script_text at)

  pub weaves : EndsDuly c → IsComplete c.status → Weaves c
  weaves ends e script script_text keep_going is_desk at =
      let w = of-command ends e (desk script keep_going) is_desk in
      writes (IsWovenOf script_text keep_going) w (does c.answer c.words c.shelf (desk script keep_going) w.refused w.text is_desk w.has script_text at)

  pub answers-keys : EndsDuly c → IsComplete c.status → AnswersKeys c
  answers-keys ends e script script_text key moment keep_going is_get at =
      let d = get script key moment keep_going in
      let w = of-command ends e d is_get in
      writes (IsAnswerOf script_text key moment (mode_of keep_going)) w (does c.answer c.words c.shelf d w.refused w.text is_get w.has script_text at)

  pub explains-keys : EndsDuly c → IsComplete c.status → ExplainsKeys c
  explains-keys ends e script keys script_text keys_text keep_going is_explain at at_keys =
      let d = explain script keys keep_going in
      let w = of-command ends e d is_explain in
      writes (IsExplanationOf script_text keys_text (mode_of keep_going)) w (does c.answer c.words c.shelf d w.refused w.text is_explain w.has script_text keys_text at at_keys)

  pub compares : EndsDuly c → IsComplete c.status → Compares c
  compares ends e first second first_text second_text keep_going is_compare at at_second =
      let d = compare first second keep_going in
      let w = of-command ends e d is_compare in
      writes (IsComparisonOf first first_text second second_text (mode_of keep_going)) w (does c.answer c.words c.shelf d w.refused w.text is_compare w.has first_text second_text at at_second)

  pub writes-sets : EndsDuly c → IsComplete c.status → WritesSets c
  writes-sets ends e file text is_sets at =
      let w = of-command ends e (sets_of file) is_sets in
      writes (AreSetsIn text) w (does c.answer c.words c.shelf (sets_of file) w.refused w.text is_sets w.has text at)

  pub drilled : (seed count threads : ℕ) → IsDrillCommand c.words seed count threads → HasWritten → Delivers (drill_text seed count) c
  drilled seed count threads is_drill w =
      let d = does c.answer c.words c.shelf (drill seed count threads) w.refused w.text is_drill w.has in
      record { written = subst (λ (o : List ℕ). Appends c.taken_before c.taken_now o) d.1 w.appends; status = w.status ∙ ap done_status d.0 }

  pub drills : EndsDuly c → IsComplete c.status → Drills c
  drills ends e seed count threads is_drill = drilled seed count threads is_drill (of-command ends e (drill seed count threads) is_drill)

  paged : EndsDuly c → (c.status ≡ 6 → ⊥) → TellsPage c
  paged ends not_six p asks = let d = page-ends c.answer c.words c.shelf p asks c.taken_before c.taken_now c.faults_before c.faults_now c.status ends not_six in record { written = d.1; status = d.0 }

  pub tells-page : EndsDuly c → IsComplete c.status → TellsPage c
  tells-page ends e = paged ends (λ k. not-done c.status (rw k (omega arith)) e)

  -- If the sink's count didn't rise, the page was written in any case.
  pub page-told : EndsDuly c → (Rose c.faults_before c.faults_now → ⊥) → TellsPage c
  page-told ends quiet = paged ends (not-cut c.status ends) where
    not-cut : (result : ℕ) → Ends (IsDue c.answer c.words c.shelf) c.taken_before c.taken_now c.faults_before c.faults_now result → result ≡ 6 → ⊥
    not-cut result (cut status text due front rose) e = quiet rose
    not-cut result (memory due keeps same) e = omega (arith, e)
    not-cut result (written status text due appends same) e = no-six status text due e where
      no-six : (status : ℕ) (text : List ℕ) → IsDue c.answer c.words c.shelf status text → status ≡ 6 → ⊥
      no-six status text (output refused t has) e = let small = done-small refused in omega (arith, e, small)
      no-six status text (page p asks nothing same) e = omega (arith, e)
      no-six status text (refusal fault cause) e = status-not-six fault e where
        form-not-six : (form : FileForm) → form_status form ≡ 6 → ⊥
        form-not-six forms.script e = omega (arith, e)
        form-not-six forms.second e = omega (arith, e)
        form-not-six forms.rules_of_nft e = omega (arith, e)
        form-not-six forms.keys e = omega (arith, e)
        form-not-six forms.rules e = omega (arith, e)
        form-not-six forms.plan e = omega (arith, e)
        form-not-six forms.capture e = omega (arith, e)

        status-not-six : (fault : Fault) → status_of fault ≡ 6 → ⊥
        status-not-six Usage e = omega (arith, e)
        status-not-six (File (files.Bad flaw)) e = form-not-six (form_of flaw) e
        status-not-six (File (files.ReadFault name)) e = omega (arith, e)
        status-not-six (File (files.TooLarge name)) e = omega (arith, e)
        status-not-six (File files.Memory) e = omega (arith, e)
        status-not-six (TooManyClerks name) e = omega (arith, e)
        status-not-six (BadKey line reason) e = omega (arith, e)
        status-not-six Memory e = omega (arith, e)

-- what is due of a page
pub due-of-page : (answer : AnswerForm) (words : List (List ℕ)) (shelf : Shelved) (p : Page) → AsksFor words p → shelf.asked ≡ [] → shelf.faults_now ≡ shelf.faults_before
    → (status : ℕ) (text : List ℕ) → IsExactly 0 (page_text p) status text → IsDue answer words shelf status text
due-of-page answer words shelf p asks nothing quiet status text e = rw (e.0, e.1) (page p asks nothing quiet)

-- what is due of a fault with its cause
pub due-refusal : (answer : AnswerForm) (words : List (List ℕ)) (shelf : Shelved) (fault : Fault) → IsCause words shelf fault → (status : ℕ) (text : List ℕ) → IsExactly (status_of fault) (fault_line fault) status text → IsDue answer words shelf status text
due-refusal answer words shelf fault cause status text e = rw (e.0, e.1) (refusal fault cause)

-- what is due of an output
pub due-of-output : (answer : AnswerForm) (words : List (List ℕ)) (shelf : Shelved) (refused : Bool) (out : List ℕ) → HasOutput answer words shelf refused out → (status : ℕ) (text : List ℕ) → IsExactly (done_status refused) out status text → IsDue answer words shelf status text
due-of-output answer words shelf refused out h status text e = rw (e.0, e.1) (output refused out h)
