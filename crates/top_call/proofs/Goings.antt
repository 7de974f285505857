-- A call ends with the result of its command: an output, a fault or a page.
use Rattle.std.specs.Borrow.{Bor}
use Rattle.std.proofs.Common.{◌≡◌, refl, subst, ℕ, Bool, List, [], map, Option, inr, inl, codes}
use Rattle.std.specs.String.{string_bytes}
use Rattle.token_forms.specs.declared.token.Reason.{Reason}
use Rattle.command_words.specs.declared.page.Page.{Page}
use Rattle.command_words.specs.WordForms.{page_text}
use Rattle.command_words.specs.Words.{Command, IsCommand, IsNoCommand, AsksFor, desk, get, sets_of}
use Rattle.command_words.proofs.PageWords.{page-no-command}
use Rattle.token_notes.specs.Shown.{Begins, BeginsAtPlace, name_text}
use Rattle.set_model.specs.declared.script.SetDecl.{SetDecl}
use Rattle.token_forms.specs.declared.bad_token.BadToken.{BadToken}
use Rattle.fault_notes.specs.Told.{MayTell, nothing as no_note}
use Rattle.input_files.specs.declared.fault.FileFault.{FileFault}
use Rattle.input_files.specs.Noted.{StopsTelling}
use Rattle.input_files.specs.Reads.{Shelved, HasRead}
use Rattle.input_files.specs.declared.work.Work.{Work}
use Rattle.input_files.specs.declared.work.Work.TheVariants as works
use Rattle.input_files.specs.Inputs.{ReadsAs}
use Rattle.input_files.specs.Works.{IsWork}
use Rattle.set_script.specs.ScriptText.{IsScriptText}
use Rattle.key_answer.specs.declared.question.AnswerError.{AnswerError}
use Rattle.key_answer.specs.declared.question.AnswerError.TheVariants as answers
use Rattle.top_call.specs.declared.fault.Fault.{Fault}
use Rattle.top_call.specs.declared.fault.Fault.TheVariants as faults
use Rattle.top_call.specs.Transcript.{IsOutput, IsOverfull, HasBadWords}
use Rattle.top_call.specs.Calls.{Call}
use Rattle.top_call.specs.Causes.{IsCause, HasManySections, HasNoKey, no_command, of_file, too_many, bad_key, no_memory}
use Rattle.top_call.specs.Lines.{answer_fault, done_status, status_of, fault_line}
use Rattle.top_call.specs.Names.{AsksInOrder}
use Rattle.top_call.specs.Answers.{Ends, IsComplete, IsDue, IsExactly, HasOutput}
use Rattle.top_call.specs.Noted.{words_front, AreSkipsOf, Ended, IsNoted, TellsError}
use Rattle.top_call.specs.Unmet.{TellsUnmet}
use Rattle.script_laws.specs.declared.refusals.Refusal.{Refusal}
use Rattle.top_call.specs.Refused.{AreRefused, IsNoteDue}
use Rattle.top_call.specs.Promises.{Goes}
use Rattle.top_call.proofs.Asking.{asks-nothing, asks-files, asks-until, asks-all}
use Rattle.top_call.proofs.Deliveries.{ends-map}
use Rattle.top_call.proofs.Endings.{due-of-output, due-refusal, due-of-page, fault-not-done}
use Rattle.top_call.proofs.Noting.{ended-of, untested, tested, words-noted, file-noted, sections-noted, key-noted, changes-noted, skips-noted}
use Rattle.top_call.proofs.UnmetLines.{sets-unmet}

-- A desk's script that was read has too many sections.
pub many-sections : (words : List (List ℕ)) (shelf : Shelved) (c : Command) (work : Work) (name : Bor (List ℕ)) → IsCommand words c → HasRead shelf c → IsWork shelf.told c work → IsOverfull c work name → HasManySections words shelf name.now
many-sections words shelf c work name is_c has_read is_work over =
    let of_desk : IsWork shelf.told c (works.Desk over.script over.keep_going) = subst (λ (w : Work). IsWork shelf.told c w) over.is_work is_work in
    let same : of_desk.0 ≡ name.now = cc (of_desk.1, over.is_name) in record {
      keep_going = over.keep_going;
      script = over.script;
      is_desk = subst (λ (d : Command). IsCommand words d) over.is_name is_c;
      has_read = subst (λ (d : Command). HasRead shelf d) over.is_name has_read;
      reads = subst (λ (n : List ℕ). ReadsAs shelf.told n (λ text. IsScriptText text over.script)) same of_desk.2;
      many = over.many;
    }

-- The words of a `get` are no key of the script that was read.
pub no-key : (words : List (List ℕ)) (shelf : Shelved) (c : Command) (work : Work) (line : ℕ) (reason : Reason) → IsCommand words c → HasRead shelf c → IsWork shelf.told c work → HasBadWords work line reason → HasNoKey words shelf line reason
no-key words shelf c (works.Get s key moment g) line reason is_c has_read is_work bad = record {
  name = is_work.0;
  key = map string_bytes key.now;
  moment = moment;
  keep_going = g;
  script = s;
  is_get = subst (λ (d : Command). IsCommand words d) is_work.1 is_c;
  has_read = subst (λ (d : Command). HasRead shelf d) is_work.1 has_read;
  reads = is_work.2;
  bad = bad;
}
no-key words shelf c (works.Run s packets threads g) line reason is_c has_read is_work bad = absurd bad
no-key words shelf c (works.List s g) line reason is_c has_read is_work bad = absurd bad
no-key words shelf c (works.Dump s g) line reason is_c has_read is_work bad = absurd bad
no-key words shelf c (works.Stat s g) line reason is_c has_read is_work bad = absurd bad
no-key words shelf c (works.Explain s packets g) line reason is_c has_read is_work bad = absurd bad
no-key words shelf c (works.Drill seed count threads) line reason is_c has_read is_work bad = absurd bad
no-key words shelf c (works.Judge s file packets threads g) line reason is_c has_read is_work bad = absurd bad
no-key words shelf c (works.Capture s plan frames threads g) line reason is_c has_read is_work bad = absurd bad
no-key words shelf c (works.JudgeCapture s file plan frames threads g) line reason is_c has_read is_work bad = absurd bad
no-key words shelf c (works.Compare a s b t g) line reason is_c has_read is_work bad = absurd bad
no-key words shelf c (works.Sets f whole sieved) line reason is_c has_read is_work bad = absurd bad
no-key words shelf c (works.Desk s g) line reason is_c has_read is_work bad = absurd bad

module _ (c : Call) where
  abbrev EndsWith : ℕ → List ℕ → Type 0
  EndsWith status text = Ends (IsExactly status text) c.taken_before c.taken_now c.faults_before c.faults_now c.status

  abbrev Silent : Type 0
  Silent = c.noted_now ≡ c.noted_before

  -- The lines on the tests of the command's rules were written.
  abbrev Tested : Command → Option (List ℕ) → Type 0
  Tested d mid = TellsUnmet c.shelf.told d c.noted_before mid

  undone : (fault : Fault) → EndsWith (status_of fault) (fault_line fault) → IsComplete c.status → ⊥
  undone fault ends e = fault-not-done fault (fault_line fault) c.taken_before c.taken_now c.faults_before c.faults_now c.status ends e

  ended : (status : ℕ) (text : List ℕ) → EndsWith status text → Ended status c.status
  ended status text ends = ended-of status text c.taken_before c.taken_now c.faults_before c.faults_now c.status ends

  pub goes-output : (d : Command) → IsCommand c.words d → HasRead c.shelf d → (refused : Bool) (text : List ℕ) → IsOutput c.answer d c.shelf.told refused text → EndsWith (done_status refused) text
      → (refusals : List Refusal) (failed : Bool) → AreRefused d c.shelf.told refused text refusals failed → (mid : Option (List ℕ)) → Tested d mid → MayTell (IsNoteDue d refused refusals failed) mid c.noted_now → Goes c
  goes-output d is_d r refused text is_output ends refusals failed are mid tests tells =
      let has : HasOutput c.answer c.words c.shelf refused text = record { command = d; is_command = is_d; has_read = r; is_output = is_output } in
      record {
        ends = ends-map (IsExactly (done_status refused) text) (IsDue c.answer c.words c.shelf) c.taken_before c.taken_now c.faults_before c.faults_now c.status (due-of-output c.answer c.words c.shelf refused text has) ends;
        names = asks-files c.words c.shelf d is_d r;
        all_read = λ e. asks-all c.words c.shelf d is_d r;
        noted = tested c d is_d mid tests (changes-noted c d refused text refusals failed has is_d are (ended (done_status refused) text ends) mid tells);
      }

  -- the sets of a ruleset are written
  pub goes-sets : (d : Command) (file : List ℕ) → d ≡ sets_of file → IsCommand c.words d → HasRead c.shelf d → (refused : Bool) (text : List ℕ) → IsOutput c.answer d c.shelf.told refused text → EndsWith (done_status refused) text → MayTell (AreSkipsOf c.shelf.told file) c.noted_before c.noted_now → Goes c
  goes-sets d file is is_d r refused text is_output ends tells =
      let has : HasOutput c.answer c.words c.shelf refused text = record { command = d; is_command = is_d; has_read = r; is_output = is_output } in
      let is_sets : IsCommand c.words (sets_of file) = subst (λ (x : Command). IsCommand c.words x) is is_d in
      record {
        ends = ends-map (IsExactly (done_status refused) text) (IsDue c.answer c.words c.shelf) c.taken_before c.taken_now c.faults_before c.faults_now c.status (due-of-output c.answer c.words c.shelf refused text has) ends;
        names = asks-files c.words c.shelf d is_d r;
        all_read = λ e. asks-all c.words c.shelf d is_d r;
        noted = tested c (sets_of file) is_sets c.noted_before (sets-unmet c.shelf.told file c.noted_before) (skips-noted c file refused text has is_sets (ended (done_status refused) text ends) c.noted_before tells);
      }

  goes-fault : (fault : Fault) → IsCause c.words c.shelf fault → AsksInOrder c.words c.shelf → EndsWith (status_of fault) (fault_line fault) → IsNoted c → Goes c
  goes-fault fault cause names ends noted = record {
    ends = ends-map (IsExactly (status_of fault) (fault_line fault)) (IsDue c.answer c.words c.shelf) c.taken_before c.taken_now c.faults_before c.faults_now c.status (due-refusal c.answer c.words c.shelf fault cause) ends;
    names = names;
    all_read = λ e. absurd (undone fault ends e);
    noted = noted;
  }

  -- the words are no command
  pub goes-usage : IsNoCommand c.words → c.shelf.asked ≡ [] → c.shelf.faults_now ≡ c.shelf.faults_before → MayTell (Begins words_front) c.noted_before c.noted_now → EndsWith (status_of faults.Usage) (fault_line faults.Usage) → Goes c
  goes-usage none nothing quiet tells ends =
      goes-fault faults.Usage (no_command none nothing quiet) (asks-nothing c.words c.shelf nothing) ends
      (untested c (undone faults.Usage ends) (words-noted c none (ended (status_of faults.Usage) (fault_line faults.Usage) ends) tells))

  -- a file can't be had
  pub goes-file : (d : Command) (fault : FileFault) → IsCommand c.words d → StopsTelling c.shelf d c.noted_before c.noted_now fault → EndsWith (status_of (faults.File fault)) (fault_line (faults.File fault)) → Goes c
  goes-file d fault is_d s ends =
      goes-fault (faults.File fault) (of_file d fault is_d s.stops) (asks-until c.words c.shelf d fault is_d s.stops) ends
      (untested c (undone (faults.File fault) ends) (file-noted c d fault is_d s (ended (status_of (faults.File fault)) (fault_line (faults.File fault)) ends)))

  -- a desk's script has too many sections
  pub goes-too-many : (d : Command) → IsCommand c.words d → (name : Bor (List ℕ)) → HasManySections c.words c.shelf name.now → (mid : Option (List ℕ)) → Tested d mid → MayTell (Begins (name_text name.now)) mid c.noted_now → EndsWith (status_of (faults.TooManyClerks name)) (fault_line (faults.TooManyClerks name)) → Goes c
  goes-too-many d is_d name h mid tests tells ends =
      goes-fault (faults.TooManyClerks name) (too_many name h) (asks-files c.words c.shelf (desk name.now h.keep_going) h.is_desk h.has_read) ends
      (tested c d is_d mid tests (sections-noted c name.now h (ended (status_of (faults.TooManyClerks name)) (fault_line (faults.TooManyClerks name)) ends) mid tells))

  -- the words of a `get` are no key
  pub goes-bad-key : (d : Command) → IsCommand c.words d → (line : ℕ) (reason : Reason) → HasNoKey c.words c.shelf line reason → (mid : Option (List ℕ)) → Tested d mid → MayTell (BeginsAtPlace (codes "key")) mid c.noted_now
      → EndsWith (status_of (faults.BadKey line reason)) (fault_line (faults.BadKey line reason)) → Goes c
  goes-bad-key d is_d line reason h mid tests tells ends =
      goes-fault (faults.BadKey line reason) (bad_key line reason h) (asks-files c.words c.shelf (get h.name h.key h.moment h.keep_going) h.is_get h.has_read) ends
      (tested c d is_d mid tests (key-noted c line reason h (ended (status_of (faults.BadKey line reason)) (fault_line (faults.BadKey line reason)) ends) mid tells))

  -- memory ran out for the words, for the lines on tests, or for the output
  pub goes-early : (d : Command) → IsCommand c.words d → c.shelf.asked ≡ [] → c.shelf.faults_now ≡ c.shelf.faults_before → Silent → EndsWith (status_of faults.Memory) (fault_line faults.Memory) → Goes c
  goes-early d is_d nothing quiet silent ends = goes-fault faults.Memory (no_memory d is_d (inl nothing) quiet) (asks-nothing c.words c.shelf nothing) ends (untested c (undone faults.Memory ends) (no_note silent))

  pub goes-untested : (d : Command) → IsCommand c.words d → HasRead c.shelf d → Silent → EndsWith (status_of faults.Memory) (fault_line faults.Memory) → Goes c
  goes-untested d is_d r silent ends = goes-fault faults.Memory (no_memory d is_d (inr r) r.quiet) (asks-files c.words c.shelf d is_d r) ends (untested c (undone faults.Memory ends) (no_note silent))

  pub goes-late : (d : Command) → IsCommand c.words d → HasRead c.shelf d → (mid : Option (List ℕ)) → Tested d mid → c.noted_now ≡ mid → EndsWith (status_of faults.Memory) (fault_line faults.Memory) → Goes c
  goes-late d is_d r mid tests silent ends = goes-fault faults.Memory (no_memory d is_d (inr r) r.quiet) (asks-files c.words c.shelf d is_d r) ends (tested c d is_d mid tests (no_note silent))

  -- there is no output
  pub goes-unanswered : (d : Command) → IsCommand c.words d → HasRead c.shelf d → (error : AnswerError)
      → ((line : ℕ) (reason : Reason) (bad : Option BadToken) (schema : List SetDecl) → error ≡ answers.BadKey line reason bad schema → HasNoKey c.words c.shelf line reason)
      → (fault : Fault) → fault ≡ answer_fault error → (mid : Option (List ℕ)) → Tested d mid → TellsError error mid c.noted_now → EndsWith (status_of fault) (fault_line fault) → Goes c
  goes-unanswered d is_d r (answers.BadKey line reason found schema) bad fault is mid tests tells ends =
      goes-bad-key d is_d line reason (bad line reason found schema refl) mid tests tells (subst (λ (f : Fault). EndsWith (status_of f) (fault_line f)) is ends)
  goes-unanswered d is_d r answers.Memory bad fault is mid tests tells ends = goes-late d is_d r mid tests tells (subst (λ (f : Fault). EndsWith (status_of f) (fault_line f)) is ends)

  pub goes-page : (p : Page) → AsksFor c.words p → c.shelf.asked ≡ [] → c.shelf.faults_now ≡ c.shelf.faults_before → Silent → EndsWith 0 (page_text p) → Goes c
  goes-page p asks nothing quiet silent ends = record {
    ends = ends-map (IsExactly 0 (page_text p)) (IsDue c.answer c.words c.shelf) c.taken_before c.taken_now c.faults_before c.faults_now c.status (due-of-page c.answer c.words c.shelf p asks nothing quiet) ends;
    names = asks-nothing c.words c.shelf nothing;
    all_read = λ e d is_d. absurd (page-no-command c.words p d asks is_d);
    noted = record { noted = c.noted_before; tests = inl refl; all_tests = λ e d is_d. absurd (page-no-command c.words p d asks is_d); other = no_note silent };
  }
