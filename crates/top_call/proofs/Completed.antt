-- What a call wrote, by its status, and if nothing failed outside.
use Rattle.std.proofs.Common.{◌<◌, ◌≤◌, Bool, true, false, ◌≡◌, ◌≢◌, refl, sym, ◌∙◌, ap, subst, ℕ, ◌==◌, ◌||◌, List, [], ◌∷◌, ◌++◌, length, Option, Some, None, inl, inr, arith, append-nil}
use Rattle.std.specs.Prelude.{◌⊎◌}
use Rattle.std.specs.Io.KnownBytes.{Appends, Keeps}
use Rattle.pip_base.specs.Causes.{Rose}
use Rattle.set_model.specs.declared.script.Script.{Script}
use Rattle.set_model.specs.declared.script.SetDecl.{SetDecl}
use Rattle.set_model.specs.declared.packet.Packet.{Packet}
use Rattle.set_model.specs.Control.{Mode, mode_of, has_refusal}
use Rattle.set_model.specs.Legal.{AreLegal, Legal}
use Rattle.set_model.specs.Text.{run_text}
use Rattle.rule_chain.specs.declared.chains.Chain.{Chain}
use Rattle.rule_chain.specs.Chains.{Rules}
use Rattle.rule_chain.specs.Judged.{IsJudged}
use Rattle.rule_chain.specs.JudgedText.{judged_text}
use Rattle.rule_chain.proofs.FileLaws.{rules_single}
use Rattle.set_script.proofs.ScriptWhole.{script_single}
use Rattle.set_script.specs.ScriptText.{IsScriptText}
use Rattle.ruleset_sets.proofs.KeptLaws.{kept_script}
use Rattle.key_file.specs.KeysText.{IsKeysText}
use Rattle.key_file.proofs.KeysLaws.{keys_single}
use Rattle.pcap_keys.specs.CapturedPackets.{AreCaptured}
use Rattle.pcap_keys.proofs.OneCapture.{one_capture}
use Rattle.token_forms.specs.declared.token.Reason.{Reason}
use Rattle.key_answer.specs.Answer.{GivesAnswer, get_text, has_no_answer}
use Rattle.compare_answer.specs.Compared.{GivesComparison}
use Rattle.explain_answer.specs.Explained.{Explains}
use Rattle.key_answer.specs.Question.{IsKey, IsBadKey, key_text, at_moment}
use Rattle.script_run.specs.Listings.{tables_text}
use Rattle.stat_answer.specs.StatText.{stat_text}
use Rattle.desk_run.specs.DeskText.{IsDeskText}
use Rattle.command_words.specs.declared.form.AnswerForm.{AnswerForm}
use Rattle.command_words.specs.Words.{Command, IsCommand, run, list, dump, drill, judge, capture, desk, get, explain, compare, stat, judge_capture, sets_of}
use Rattle.command_words.proofs.CommandWords.{one-command}
use Rattle.command_words.proofs.PageWords.{page-no-command}
use Rattle.input_files.specs.declared.fault.FileFault.{FileFault}
use Rattle.input_files.specs.declared.fault.FileFault.TheVariants as files
use Rattle.input_files.specs.Inputs as forms
use Rattle.input_files.specs.Inputs.{Input, FileForm, inputs, form_of, names_of, IsOf, ReadsAs, IsFileCause}
use Rattle.input_files.specs.Reads.{Shelved, StopsAt}
use Rattle.input_files.specs.Given.{Has, AreGiven}
use Rattle.input_files.proofs.Turns.{given-one, given-front, given-refuses}
use Rattle.top_call.specs.declared.fault.Fault.{Fault}
use Rattle.top_call.specs.declared.fault.Fault.TheVariants.{Usage, File, TooManyClerks, BadKey, Memory}
use Rattle.top_call.specs.Transcript.{IsTranscript, IsJudgement, IsJudgedCapture, AreRulesOf, IsCaptured, IsTextOf, IsWovenOf, most_sections, IsAnswerOf, IsExplanationOf, IsComparisonOf, AreSetsIn}
use Rattle.top_call.specs.Texts.{listing_output, run_output}
use Rattle.top_call.specs.Calls.{Call, IsQuiet}
use Rattle.top_call.specs.Causes.{IsCause, no_command, of_file, too_many, bad_key, no_memory}
use Rattle.top_call.specs.Lines.{done_status, form_status, file_status, file_line, status_of, fault_line}
use Rattle.top_call.specs.Answers.{Ends, EndsDuly, written, cut, memory, IsDue, output, page, refusal, TellsReadFault, TellsFlaw, TellsTooMany, TellsBadKey}
use Rattle.top_call.specs.Exactly.{HasScript, HasRuleset, HasKeys, HasRules, HasCaptured, Completes, DeliversText, DeliversRun, DeliversJudgement, DeliversDesk, DeliversAnswer, DeliversExplanation, DeliversComparison, DeliversSets, RanOut}
use Rattle.top_call.proofs.Endings.{done-small, does, Wrote, HasWritten, drilled, page-told}

-- The numbers that are a form's status.
is_form : ℕ → Bool
is_form n = (n == 3) || (n == 4) || (n == 9) || (n == 10) || (n == 11)

form-is : (form : FileForm) → is_form (form_status form) ≡ true
unfolding is_form
form-is forms.script = refl
form-is forms.second = refl
form-is forms.rules_of_nft = refl
form-is forms.keys = refl
form-is forms.rules = refl
form-is forms.plan = refl
form-is forms.capture = refl

form-apart : (form : FileForm) (n : ℕ) → n ≡ form_status form → is_form n ≡ false → ⊥
form-apart form n e f = let t = form-is form in let u : is_form n ≡ is_form (form_status form) = ap is_form e in cc (t, u, f)

done-no-form : (refused : Bool) → is_form (done_status refused) ≡ false
unfolding is_form
done-no-form true = refl
done-no-form false = refl

module _ (c : Call) where
  -- With status 5 the line of a read fault was written.
  file-fault : (d : Command) (fault : FileFault) → StopsAt c.shelf d fault → file_status fault ≡ 5 → Appends c.taken_before c.taken_now (file_line fault) → TellsReadFault c
  unfolding is_form
  file-fault d (files.Bad flaw) s e line = absurd (form-apart (form_of flaw) 5 (sym e) refl)
  file-fault d (files.ReadFault name) s e line =
      record { front = names_of s.earlier; name = name.now; last = s.cause.0 ∙ ap (λ (n : List ℕ). names_of s.earlier ++ n ∷ []) (sym s.cause.1); rose = s.cause.2; line = line }
  file-fault d (files.TooLarge name) s e line = absurd (omega (arith, e))
  file-fault d files.Memory s e line = absurd (omega (arith, e))

  cause-fault : (fault : Fault) → IsCause c.words c.shelf fault → status_of fault ≡ 5 → Appends c.taken_before c.taken_now (fault_line fault) → TellsReadFault c
  cause-fault Usage (no_command none nothing same) e line = absurd (omega (arith, e))
  cause-fault (File f) (of_file d g is_d s) e line = file-fault d f s e line
  cause-fault (TooManyClerks name) (too_many n h) e line = absurd (omega (arith, e))
  cause-fault (BadKey l r) (bad_key m q h) e line = absurd (omega (arith, e))
  cause-fault Memory (no_memory d is_d asked same) e line = absurd (omega (arith, e))

  due-fault : (status : ℕ) (text : List ℕ) → IsDue c.answer c.words c.shelf status text → status ≡ 5 → Appends c.taken_before c.taken_now text → TellsReadFault c
  due-fault status text (output refused t has) e line = absurd (let small = done-small refused in omega (arith, e, small))
  due-fault status text (page p asks nothing same) e line = absurd (omega (arith, e))
  due-fault status text (refusal fault cause) e line = cause-fault fault cause e line

  ends-fault : (result : ℕ) → Ends (IsDue c.answer c.words c.shelf) c.taken_before c.taken_now c.faults_before c.faults_now result → result ≡ 5 → TellsReadFault c
  ends-fault result (written status text due appends quiet) e = due-fault status text due e appends
  ends-fault result (cut status text due front rose) e = absurd (omega (arith, e))
  ends-fault result (memory due keeps quiet) e = absurd (omega (arith, e))

  pub tells-read-fault : EndsDuly c → c.status ≡ 5 → TellsReadFault c
  tells-read-fault ends e = ends-fault c.status ends e

  -- With the status of a form the line of what is wrong with a file of that form was written.
  module _ (form : FileForm) where
    file-flaw : (d : Command) (fault : FileFault) → IsCommand c.words d → StopsAt c.shelf d fault → file_status fault ≡ form_status form → Appends c.taken_before c.taken_now (file_line fault) → TellsFlaw (form_status form) c
    unfolding is_form
    file-flaw d (files.Bad flaw) is_d s e line = record { command = d; flaw = flaw; is_command = is_d; stops = s; of_status = e; written = line }
    file-flaw d (files.ReadFault name) is_d s e line = absurd (form-apart form 5 e refl)
    file-flaw d (files.TooLarge name) is_d s e line = absurd (form-apart form 8 e refl)
    file-flaw d files.Memory is_d s e line = absurd (form-apart form 7 e refl)

    cause-flaw : (fault : Fault) → IsCause c.words c.shelf fault → status_of fault ≡ form_status form → Appends c.taken_before c.taken_now (fault_line fault) → TellsFlaw (form_status form) c
    unfolding is_form
    cause-flaw Usage (no_command none nothing same) e line = absurd (form-apart form 2 e refl)
    cause-flaw (File f) (of_file d g is_d s) e line = file-flaw d f is_d s e line
    cause-flaw (TooManyClerks name) (too_many n h) e line = absurd (form-apart form 12 e refl)
    cause-flaw (BadKey l r) (bad_key m q h) e line = absurd (form-apart form 13 e refl)
    cause-flaw Memory (no_memory d is_d asked same) e line = absurd (form-apart form 7 e refl)

    due-flaw : (status : ℕ) (text : List ℕ) → IsDue c.answer c.words c.shelf status text → status ≡ form_status form → Appends c.taken_before c.taken_now text → TellsFlaw (form_status form) c
    unfolding is_form
    due-flaw status text (output refused t has) e line = absurd (form-apart form (done_status refused) e (done-no-form refused))
    due-flaw status text (page p asks nothing same) e line = absurd (form-apart form 0 e refl)
    due-flaw status text (refusal fault cause) e line = cause-flaw fault cause e line

    ends-flaw : (result : ℕ) → Ends (IsDue c.answer c.words c.shelf) c.taken_before c.taken_now c.faults_before c.faults_now result → result ≡ form_status form → TellsFlaw (form_status form) c
    unfolding is_form
    ends-flaw result (written status text due appends quiet) e = due-flaw status text due e appends
    ends-flaw result (cut status text due front rose) e = absurd (form-apart form 6 e refl)
    ends-flaw result (memory due keeps quiet) e = absurd (form-apart form 7 e refl)

  -- With status 12 the line of a desk's script with too many sections was written.
  file-no-twelve : (f : FileFault) → file_status f ≡ 12 → ⊥
  file-no-twelve (files.Bad flaw) e = form-no-twelve (form_of flaw) e where
    form-no-twelve : (form : FileForm) → form_status form ≡ 12 → ⊥
    form-no-twelve forms.script e = omega (arith, e)
    form-no-twelve forms.second e = omega (arith, e)
    form-no-twelve forms.rules_of_nft e = omega (arith, e)
    form-no-twelve forms.keys e = omega (arith, e)
    form-no-twelve forms.rules e = omega (arith, e)
    form-no-twelve forms.plan e = omega (arith, e)
    form-no-twelve forms.capture e = omega (arith, e)
  file-no-twelve (files.ReadFault name) e = omega (arith, e)
  file-no-twelve (files.TooLarge name) e = omega (arith, e)
  file-no-twelve files.Memory e = omega (arith, e)

  cause-many : (fault : Fault) → IsCause c.words c.shelf fault → status_of fault ≡ 12 → Appends c.taken_before c.taken_now (fault_line fault) → TellsTooMany c
  cause-many Usage (no_command none nothing same) e line = absurd (omega (arith, e))
  cause-many (File f) (of_file d g is_d s) e line = absurd (file-no-twelve f e)
  cause-many (TooManyClerks name) (too_many n h) e line = record { name = name.now; has_many = h; written = line }
  cause-many (BadKey l r) (bad_key m q h) e line = absurd (omega (arith, e))
  cause-many Memory (no_memory d is_d asked same) e line = absurd (omega (arith, e))

  due-many : (status : ℕ) (text : List ℕ) → IsDue c.answer c.words c.shelf status text → status ≡ 12 → Appends c.taken_before c.taken_now text → TellsTooMany c
  due-many status text (output refused t has) e line = absurd (let small = done-small refused in omega (arith, e, small))
  due-many status text (page p asks nothing same) e line = absurd (omega (arith, e))
  due-many status text (refusal fault cause) e line = cause-many fault cause e line

  ends-many : (result : ℕ) → Ends (IsDue c.answer c.words c.shelf) c.taken_before c.taken_now c.faults_before c.faults_now result → result ≡ 12 → TellsTooMany c
  ends-many result (written status text due appends quiet) e = due-many status text due e appends
  ends-many result (cut status text due front rose) e = absurd (omega (arith, e))
  ends-many result (memory due keeps quiet) e = absurd (omega (arith, e))

  pub tells-too-many : EndsDuly c → c.status ≡ 12 → TellsTooMany c
  tells-too-many ends e = ends-many c.status ends e

  -- With status 13 the line of words that are no key was written.
  file-no-thirteen : (f : FileFault) → file_status f ≡ 13 → ⊥
  file-no-thirteen (files.Bad flaw) e = form-no-thirteen (form_of flaw) e where
    form-no-thirteen : (form : FileForm) → form_status form ≡ 13 → ⊥
    form-no-thirteen forms.script e = omega (arith, e)
    form-no-thirteen forms.second e = omega (arith, e)
    form-no-thirteen forms.rules_of_nft e = omega (arith, e)
    form-no-thirteen forms.keys e = omega (arith, e)
    form-no-thirteen forms.rules e = omega (arith, e)
    form-no-thirteen forms.plan e = omega (arith, e)
    form-no-thirteen forms.capture e = omega (arith, e)
  file-no-thirteen (files.ReadFault name) e = omega (arith, e)
  file-no-thirteen (files.TooLarge name) e = omega (arith, e)
  file-no-thirteen files.Memory e = omega (arith, e)

  cause-key : (fault : Fault) → IsCause c.words c.shelf fault → status_of fault ≡ 13 → Appends c.taken_before c.taken_now (fault_line fault) → TellsBadKey c
  cause-key Usage (no_command none nothing same) e line = absurd (omega (arith, e))
  cause-key (File f) (of_file d g is_d s) e line = absurd (file-no-thirteen f e)
  cause-key (TooManyClerks name) (too_many n h) e line = absurd (omega (arith, e))
  cause-key (BadKey l r) (bad_key m q h) e line = record { line = l; reason = r; has_none = h; written = line }
  cause-key Memory (no_memory d is_d asked same) e line = absurd (omega (arith, e))

  due-key : (status : ℕ) (text : List ℕ) → IsDue c.answer c.words c.shelf status text → status ≡ 13 → Appends c.taken_before c.taken_now text → TellsBadKey c
  due-key status text (output refused t has) e line = absurd (let small = done-small refused in omega (arith, e, small))
  due-key status text (page p asks nothing same) e line = absurd (omega (arith, e))
  due-key status text (refusal fault cause) e line = cause-key fault cause e line

  ends-key : (result : ℕ) → Ends (IsDue c.answer c.words c.shelf) c.taken_before c.taken_now c.faults_before c.faults_now result → result ≡ 13 → TellsBadKey c
  ends-key result (written status text due appends quiet) e = due-key status text due e appends
  ends-key result (cut status text due front rose) e = absurd (omega (arith, e))
  ends-key result (memory due keeps quiet) e = absurd (omega (arith, e))

  pub tells-bad-key : EndsDuly c → c.status ≡ 13 → TellsBadKey c
  tells-bad-key ends e = ends-key c.status ends e

  pub tells-flaw : EndsDuly c → (form : FileForm) → c.status ≡ form_status form → TellsFlaw (form_status form) c
  tells-flaw ends form e = ends-flaw form c.status ends e

-- The shelf's count rises only with a read fault, and the sink's only with a write fault.
module _ (answer : AnswerForm) (words : List (List ℕ)) (shelf : Shelved) where
  file-moved : (sets : List SetDecl) (names : List (List ℕ)) (i : Input) (fault : FileFault) → IsFileCause shelf.told sets names i shelf.asked shelf.faults_before shelf.faults_now fault → shelf.faults_now ≢ shelf.faults_before → file_status fault ≡ 5
  file-moved sets names i (files.Bad flaw) cause moved = absurd (moved cause.1)
  file-moved sets names i (files.ReadFault name) cause moved = refl
  file-moved sets names i (files.TooLarge name) cause moved = absurd (moved cause.2)
  file-moved sets names i files.Memory cause moved = absurd (moved cause.1)

  cause-moved : (fault : Fault) → IsCause words shelf fault → shelf.faults_now ≢ shelf.faults_before → status_of fault ≡ 5
  cause-moved Usage (no_command none nothing same) moved = absurd (moved same)
  cause-moved (File f) (of_file d g is_d s) moved = file-moved s.sets (names_of s.earlier) s.input f s.cause moved
  cause-moved (TooManyClerks name) (too_many n h) moved = absurd (moved h.has_read.quiet)
  cause-moved (BadKey l r) (bad_key m q h) moved = absurd (moved h.has_read.quiet)
  cause-moved Memory (no_memory d is_d asked same) moved = absurd (moved same)

  due-moved : (status : ℕ) (text : List ℕ) → IsDue answer words shelf status text → shelf.faults_now ≢ shelf.faults_before → status ≡ 5
  due-moved status text (output refused t has) moved = absurd (moved has.has_read.quiet)
  due-moved status text (page p asks nothing same) moved = absurd (moved same)
  due-moved status text (refusal fault cause) moved = cause-moved fault cause moved

  pub shelf-moved : (taken_before taken_now : Option (List ℕ)) (b n result : ℕ) → Ends (IsDue answer words shelf) taken_before taken_now b n result → shelf.faults_now ≢ shelf.faults_before → (result ≡ 5) ⊎ (result ≡ 6)
  shelf-moved taken_before taken_now b n result (written status text due appends same) moved = inl (due-moved status text due moved)
  shelf-moved taken_before taken_now b n result (cut status text due front rose) moved = inr refl
  shelf-moved taken_before taken_now b n result (memory due keeps same) moved = absurd (let e = due-moved 7 [] due moved in omega (arith, e))

  pub sink-moved : (taken_before taken_now : Option (List ℕ)) (b n result : ℕ) → Ends (IsDue answer words shelf) taken_before taken_now b n result → n ≢ b → result ≡ 6
  sink-moved taken_before taken_now b n result (written status text due appends same) moved = absurd (moved same)
  sink-moved taken_before taken_now b n result (cut status text due front rose) moved = refl
  sink-moved taken_before taken_now b n result (memory due keeps same) moved = absurd (moved same)

kept-by-nothing : (a b : Option (List ℕ)) → Appends a b [] → Keeps a b
kept-by-nothing None b h = tt
kept-by-nothing (Some xs) None h = absurd h
kept-by-nothing (Some xs) (Some ys) h = h ∙ append-nil xs

-- A command isn't a desk whose script has too many sections.
abbrev HasFew : (List ℕ → Option (List ℕ)) → Command → Type 0
HasFew told c = (name : List ℕ) (keep_going : Bool) (s : Script) → c ≡ desk name keep_going → ReadsAs told name (λ text. IsScriptText text s) → most_sections < length s.sections → ⊥

-- the script's name and the words of the key of a `get`
abbrev script_name : Command → List ℕ
script_name (get script key moment g) = script
script_name other = []

abbrev key_words : Command → List (List ℕ)
key_words (get script key moment g) = key
key_words other = []

-- A key isn't refused.
good-key : (sets : List SetDecl) (words : List (List ℕ)) (p : Packet) (line : ℕ) (reason : Reason) → IsKey sets words p → IsBadKey sets words line reason → ⊥
unfolding IsKeysText
good-key sets words p line reason is_key (inl fault) = fault.outside ((p ∷ []) ∷ []) is_key
good-key sets words p line reason is_key (inr none) = none.0.other p (keys_single sets (key_text words) none.0.packets ((p ∷ []) ∷ []) none.0.is_text is_key)

-- A command isn't a `get` whose words are no key.
abbrev HasKey : (List ℕ → Option (List ℕ)) → Command → Type 0
HasKey told c = (name : List ℕ) (key : List (List ℕ)) (moment : Option ℕ) (keep_going : Bool) (s : Script) (line : ℕ) (reason : Reason) → c ≡ get name key moment keep_going → ReadsAs told name (λ text. IsScriptText text s) → IsBadKey s.schema key line reason → ⊥

-- The shelf shows a command's files, they are of their forms, and nothing failed outside. Then the command's output
-- was written, or memory ran out.
module _ (words : List (List ℕ)) (shelf : Shelved) (quiet : Rose shelf.faults_before shelf.faults_now → ⊥) (c : Command) (is_c : IsCommand words c) (sets : List SetDecl) (given : AreGiven shelf.told sets (inputs c)) where
  pub file-given : (fault : FileFault) → StopsAt shelf c fault → fault ≡ files.Memory
  file-given (files.Bad flaw) s = absurd (given-refuses shelf.told c s.earlier s.input s.later s.sets sets flaw s.in_order s.read_before.are_of s.cause.2 s.cause.3 (given-front shelf.told sets s.earlier (s.input ∷ s.later) here) (given-one shelf.told sets s.earlier s.input s.later here)) where
    here : AreGiven shelf.told sets (s.earlier ++ s.input ∷ s.later)
    here = subst (λ (z : List Input). AreGiven shelf.told sets z) s.in_order given
  file-given (files.ReadFault name) s = absurd (quiet s.cause.2)
  file-given (files.TooLarge name) s = absurd (omega (arith, big, has.fits)) where
    here : AreGiven shelf.told sets (s.earlier ++ s.input ∷ s.later)
    here = subst (λ (z : List Input). AreGiven shelf.told sets z) s.in_order given

    has : Has shelf.told s.input.name (IsOf s.input.form sets)
    has = given-one shelf.told sets s.earlier s.input s.later here

    big : 67108864 < length has.text
    big = s.cause.3 has.text has.is_told
  file-given files.Memory s = refl

  module _ (few : HasFew shelf.told c) (keyed : HasKey shelf.told c) where
    cause-given : (fault : Fault) → IsCause words shelf fault → (status_of fault ≡ 7) × (fault_line fault ≡ [])
    cause-given Usage (no_command none nothing same) = absurd (none.no_work c is_c)
    cause-given (File f) (of_file d g is_d s) =
        let e = file-given f (subst (λ (x : Command). StopsAt shelf x f) (one-command words d c is_d is_c) s) in
        (ap file_status e, ap file_line e)
    cause-given (TooManyClerks name) (too_many n h) = absurd (few name.now h.keep_going h.script (one-command words c (desk name.now h.keep_going) is_c h.is_desk) h.reads h.many)
    cause-given (BadKey l r) (bad_key m q h) = absurd (keyed h.name h.key h.moment h.keep_going h.script m q (one-command words c (get h.name h.key h.moment h.keep_going) is_c h.is_get) h.reads h.bad)
    cause-given Memory (no_memory d is_d asked same) = (refl, refl)

    module _ (answer : AnswerForm) (taken_before taken_now : Option (List ℕ)) where
      due-given : (status : ℕ) (text : List ℕ) → IsDue answer words shelf status text → Appends taken_before taken_now text → Wrote answer words shelf taken_before taken_now status ⊎ ((status ≡ 7) × Keeps taken_before taken_now)
      due-given status text (output refused t has) appends = inl (record { refused = refused; text = t; status = refl; has = has; appends = appends })
      due-given status text (page p asks nothing same) appends = absurd (page-no-command words p c asks is_c)
      due-given status text (refusal fault cause) appends =
          let g = cause-given fault cause in
          inr (g.0, kept-by-nothing taken_before taken_now (subst (λ (t : List ℕ). Appends taken_before taken_now t) g.1 appends))

      pub given-done : (b n result : ℕ) → Ends (IsDue answer words shelf) taken_before taken_now b n result → (Rose b n → ⊥) → Wrote answer words shelf taken_before taken_now result ⊎ ((result ≡ 7) × Keeps taken_before taken_now)
      given-done b n result (written status text due appends same) sink = due-given status text due appends
      given-done b n result (cut status text due front rose) sink = absurd (sink rose)
      given-done b n result (memory due keeps same) sink = inr (refl, keeps)

-- If a command has a script alone, or is a run, the shelf shows its files and they are of their forms.
pub given-script : (told : List ℕ → Option (List ℕ)) (name : List ℕ) (s : Script) → HasScript told name s → Has told name (IsOf forms.script s.schema)
given-script told name s h = record { text = h.text; is_told = h.is_told; fits = h.fits; holds = (s, h.holds, refl) }

given-second : (told : List ℕ → Option (List ℕ)) (name : List ℕ) (t : Script) (sets : List SetDecl) → HasScript told name t → Has told name (IsOf forms.second sets)
given-second told name t sets h = record { text = h.text; is_told = h.is_told; fits = h.fits; holds = (t, h.holds) }

given-ruleset : (told : List ℕ → Option (List ℕ)) (name : List ℕ) (s : Script) (sets : List SetDecl) → HasRuleset told name s → Has told name (IsOf forms.rules_of_nft sets)
given-ruleset told name s sets h = record { text = h.text; is_told = h.is_told; fits = h.fits; holds = (s, h.holds) }

given-keys : (told : List ℕ → Option (List ℕ)) (name : List ℕ) (s : Script) (packets : List (List Packet)) → HasKeys told name s packets → Has told name (IsOf forms.keys s.schema)
given-keys told name s packets h = record { text = h.text; is_told = h.is_told; fits = h.fits; holds = (packets, h.holds) }

given-rules : (told : List ℕ → Option (List ℕ)) (name : List ℕ) (s : Script) (r : Rules) → HasRules told name s r → Has told name (IsOf forms.rules s.schema)
given-rules told name s r h = record { text = h.text; is_told = h.is_told; fits = h.fits; holds = ((r.chains, r.accept), h.holds.is_text) }

abbrev rules-of : List SetDecl → List Chain → Bool → Rules
rules-of sets chains accept = record { schema = sets; chains = chains; accept = accept }

-- A text is read as the same rules over the same sets.
one-rules : (s : Script) (text : List ℕ) (a b : Rules) → AreRulesOf s text a → AreRulesOf s text b → a ≡ b
one-rules s text a b h k =
    let same : (a.chains, a.accept) ≡ (b.chains, b.accept) = rules_single s.schema text (a.chains, a.accept) (b.chains, b.accept) h.is_text k.is_text in
    let chains : a.chains ≡ b.chains = ap (λ (x : List Chain × Bool). x.0) same in
    let accept : a.accept ≡ b.accept = ap (λ (x : List Chain × Bool). x.1) same in
    let sets : a.schema ≡ b.schema = h.over ∙ sym k.over in
    ap (λ (z : List SetDecl). rules-of z a.chains a.accept) sets ∙ ap (λ (z : List Chain). rules-of b.schema z a.accept) chains ∙ ap (λ (z : Bool). rules-of b.schema b.chains z) accept

given-plan : (told : List ℕ → Option (List ℕ)) (p f : List ℕ) (s : Script) (packets : List Packet) → HasCaptured told p f s packets → Has told p (IsOf forms.plan s.schema)
given-plan told p f s packets h = record { text = h.plan.text; is_told = h.plan.is_told; fits = h.plan.fits; holds = (h.lines, h.plan.holds) }

given-capture : (told : List ℕ → Option (List ℕ)) (p f : List ℕ) (s : Script) (packets : List Packet) → HasCaptured told p f s packets → Has told f (IsOf forms.capture s.schema)
given-capture told p f s packets h = record { text = h.capture.text; is_told = h.capture.is_told; fits = h.capture.fits; holds = (h.frames, h.capture.holds) }

module _ (c : Call) (ends : EndsDuly c) (quiet : IsQuiet c) where
  -- a command whose files are given
  pub ended : (d : Command) (sets : List SetDecl) → IsCommand c.words d → AreGiven c.shelf.told sets (inputs d) → HasFew c.shelf.told d → HasKey c.shelf.told d → HasWritten c ⊎ RanOut c
  ended d sets is_d given few keyed = given-done c.words c.shelf quiet.shelf d is_d sets given few keyed c.answer c.taken_before c.taken_now c.faults_before c.faults_now c.status ends quiet.sink

  -- the transcript of the script and the key file in these texts
  same-files : (n : ℕ) (mode : Mode) (script keys_name : List ℕ) (s : Script) (packets : List (List Packet)) (hs : HasScript c.shelf.told script s) (hk : HasKeys c.shelf.told keys_name s packets) (w : HasWritten c)
      → IsTranscript c.answer hs.text hk.text n mode w.refused w.text → DeliversRun n mode s packets c
  same-files n mode script keys_name s packets hs hk w t =
      let one : t.script ≡ s = script_single hs.text t.script s t.script_is hs.holds in
      let their_keys : IsKeysText s.schema hk.text t.keys = subst (λ (x : Script). IsKeysText x.schema hk.text t.keys) one t.keys_are in
      let other : t.keys ≡ packets = keys_single s.schema hk.text t.keys packets their_keys hk.holds in
      let is_legal : Legal s packets n mode t.lines = subst (λ (k : List (List Packet)). Legal s k n mode t.lines) other (subst (λ (x : Script). Legal x t.keys n mode t.lines) one t.legal) in
      let is_text : w.text ≡ run_output c.answer mode s packets t.lines = t.text ∙ ap (λ (x : Script). run_output c.answer mode x t.keys t.lines) one ∙ ap (λ (k : List (List Packet)). run_output c.answer mode s k t.lines) other in
      record { lines = t.lines; legal = is_legal; delivers = record { written = subst (λ (o : List ℕ). Appends c.taken_before c.taken_now o) is_text w.appends; status = w.status ∙ ap done_status (t.refusal ∙ ap (has_refusal mode) one) } }

  -- what the chains decide on the packets of the key file
  same-judgement : (n : ℕ) (mode : Mode) (script rules_name keys_name : List ℕ) (s : Script) (r : Rules) (packets : List (List Packet)) (hs : HasScript c.shelf.told script s) (hr : HasRules c.shelf.told rules_name s r) (hk : HasKeys c.shelf.told keys_name s packets) (w : HasWritten c)
      → IsJudgement hs.text hr.text hk.text n mode w.refused w.text → DeliversJudgement n mode s r packets c
  same-judgement n mode script rules_name keys_name s r packets hs hr hk w t =
      let one : t.script ≡ s = script_single hs.text t.script s t.script_is hs.holds in
      let their_rules : AreRulesOf s hr.text t.rules = subst (λ (x : Script). AreRulesOf x hr.text t.rules) one t.rules_are in
      let by : t.rules ≡ r = one-rules s hr.text t.rules r their_rules hr.holds in
      let their_keys : IsKeysText s.schema hk.text t.keys = subst (λ (x : Script). IsKeysText x.schema hk.text t.keys) one t.keys_are in
      let other : t.keys ≡ packets = keys_single s.schema hk.text t.keys packets their_keys hk.holds in
      let of_script : AreLegal (IsJudged t.rules) s t.keys n mode t.lines = subst (λ (x : Script). AreLegal (IsJudged t.rules) x t.keys n mode t.lines) one t.legal in
      let of_keys : AreLegal (IsJudged t.rules) s packets n mode t.lines = subst (λ (k : List (List Packet)). AreLegal (IsJudged t.rules) s k n mode t.lines) other of_script in
      let is_legal : AreLegal (IsJudged r) s packets n mode t.lines = subst (λ (x : Rules). AreLegal (IsJudged x) s packets n mode t.lines) by of_keys in
      let is_text : w.text ≡ run_text (judged_text r) mode s packets t.lines =
      t.text ∙ ap (λ (x : Script). run_text (judged_text t.rules) mode x t.keys t.lines) one ∙ ap (λ (k : List (List Packet)). run_text (judged_text t.rules) mode s k t.lines) other ∙ ap (λ (x : Rules). run_text (judged_text x) mode s packets t.lines) by in
      record { lines = t.lines; legal = is_legal; delivers = record { written = subst (λ (o : List ℕ). Appends c.taken_before c.taken_now o) is_text w.appends; status = w.status ∙ ap done_status (t.refusal ∙ ap (has_refusal mode) one) } }

  -- the transcript of the script, and of the packets that the plan takes from the capture
  same-capture : (n : ℕ) (mode : Mode) (script plan_name capture_name : List ℕ) (s : Script) (taken : List Packet) (hs : HasScript c.shelf.told script s) (hc : HasCaptured c.shelf.told plan_name capture_name s taken) (w : HasWritten c)
      → IsCaptured c.answer hs.text hc.plan.text hc.capture.text n mode w.refused w.text → DeliversRun n mode s (taken ∷ []) c
  same-capture n mode script plan_name capture_name s taken hs hc w t =
      let one : t.script ≡ s = script_single hs.text t.script s t.script_is hs.holds in
      let theirs : AreCaptured s.schema hc.plan.text hc.capture.text t.packets = subst (λ (x : Script). AreCaptured x.schema hc.plan.text hc.capture.text t.packets) one t.captured in
      let mine : AreCaptured s.schema hc.plan.text hc.capture.text taken = record { plan = hc.lines; frames = hc.frames; is_plan = hc.plan.holds; is_capture = hc.capture.holds; made = hc.made } in
      let other : t.packets ≡ taken = one_capture s.schema hc.plan.text hc.capture.text t.packets taken theirs mine in
      let is_legal : Legal s (taken ∷ []) n mode t.lines = subst (λ (k : List Packet). Legal s (k ∷ []) n mode t.lines) other (subst (λ (x : Script). Legal x (t.packets ∷ []) n mode t.lines) one t.legal) in
      let is_text : w.text ≡ run_output c.answer mode s (taken ∷ []) t.lines = t.text ∙ ap (λ (x : Script). run_output c.answer mode x (t.packets ∷ []) t.lines) one ∙ ap (λ (k : List Packet). run_output c.answer mode s (k ∷ []) t.lines) other in
      record { lines = t.lines; legal = is_legal; delivers = record { written = subst (λ (o : List ℕ). Appends c.taken_before c.taken_now o) is_text w.appends; status = w.status ∙ ap done_status (t.refusal ∙ ap (has_refusal mode) one) } }

  -- what the chains decide on the packets that the plan takes from the capture
  same-judged-capture : (n : ℕ) (mode : Mode) (script rules_name plan_name capture_name : List ℕ) (s : Script) (r : Rules) (taken : List Packet) (hs : HasScript c.shelf.told script s) (hr : HasRules c.shelf.told rules_name s r) (hc : HasCaptured c.shelf.told plan_name capture_name s taken) (w : HasWritten c)
      → IsJudgedCapture hs.text hr.text hc.plan.text hc.capture.text n mode w.refused w.text → DeliversJudgement n mode s r (taken ∷ []) c
  same-judged-capture n mode script rules_name plan_name capture_name s r taken hs hr hc w t =
      let one : t.script ≡ s = script_single hs.text t.script s t.script_is hs.holds in
      let their_rules : AreRulesOf s hr.text t.rules = subst (λ (x : Script). AreRulesOf x hr.text t.rules) one t.rules_are in
      let by : t.rules ≡ r = one-rules s hr.text t.rules r their_rules hr.holds in
      let theirs : AreCaptured s.schema hc.plan.text hc.capture.text t.packets = subst (λ (x : Script). AreCaptured x.schema hc.plan.text hc.capture.text t.packets) one t.captured in
      let mine : AreCaptured s.schema hc.plan.text hc.capture.text taken = record { plan = hc.lines; frames = hc.frames; is_plan = hc.plan.holds; is_capture = hc.capture.holds; made = hc.made } in
      let other : t.packets ≡ taken = one_capture s.schema hc.plan.text hc.capture.text t.packets taken theirs mine in
      let of_script : AreLegal (IsJudged t.rules) s (t.packets ∷ []) n mode t.lines = subst (λ (x : Script). AreLegal (IsJudged t.rules) x (t.packets ∷ []) n mode t.lines) one t.legal in
      let of_packets : AreLegal (IsJudged t.rules) s (taken ∷ []) n mode t.lines = subst (λ (k : List Packet). AreLegal (IsJudged t.rules) s (k ∷ []) n mode t.lines) other of_script in
      let is_legal : AreLegal (IsJudged r) s (taken ∷ []) n mode t.lines = subst (λ (x : Rules). AreLegal (IsJudged x) s (taken ∷ []) n mode t.lines) by of_packets in
      let is_text : w.text ≡ run_text (judged_text r) mode s (taken ∷ []) t.lines =
      t.text ∙ ap (λ (x : Script). run_text (judged_text t.rules) mode x (t.packets ∷ []) t.lines) one ∙ ap (λ (k : List Packet). run_text (judged_text t.rules) mode s (k ∷ []) t.lines) other ∙ ap (λ (x : Rules). run_text (judged_text x) mode s (taken ∷ []) t.lines) by in
      record { lines = t.lines; legal = is_legal; delivers = record { written = subst (λ (o : List ℕ). Appends c.taken_before c.taken_now o) is_text w.appends; status = w.status ∙ ap done_status (t.refusal ∙ ap (has_refusal mode) one) } }

  -- a text of the script that was read
  same-script : (text : Mode → Script → List ℕ) (mode : Mode) (script : List ℕ) (s : Script) (hs : HasScript c.shelf.told script s) (w : HasWritten c) → IsTextOf text hs.text mode w.refused w.text → DeliversText mode s (text mode s) c
  same-script text mode script s hs w t =
      let one : t.script ≡ s = script_single hs.text t.script s t.script_is hs.holds in
      record { written = subst (λ (o : List ℕ). Appends c.taken_before c.taken_now o) (t.text_is ∙ ap (text mode) one) w.appends; status = w.status ∙ ap done_status (t.refusal ∙ ap (has_refusal mode) one) }

  -- the text of a desk
  same-desk : (script : List ℕ) (g : Bool) (s : Script) (hs : HasScript c.shelf.told script s) (w : HasWritten c) → IsWovenOf hs.text g w.refused w.text → DeliversDesk s g c
  same-desk script g s hs w t =
      let one : t.script ≡ s = script_single hs.text t.script s t.script_is hs.holds in
      record { refused = w.refused; text = w.text; is_desk = subst (λ (x : Script). IsDeskText x g w.refused w.text) one t.is_desk; written = w.appends; status = w.status }

  few-sections : (script : List ℕ) (g : Bool) (s : Script) (hs : HasScript c.shelf.told script s) → length s.sections ≤ most_sections → HasFew c.shelf.told (desk script g)
  few-sections script g s hs few name k t e reads many =
      let here : script ≡ name = cc e in
      let is_t : IsScriptText hs.text t = (reads hs.text (subst (λ (n : List ℕ). c.shelf.told n ≡ Some hs.text) here hs.is_told)).1 in
      let size = ap (λ (x : Script). length x.sections) (script_single hs.text t s is_t hs.holds) in
      omega (arith, size, few, many)

  -- the answer to the key in the script that was read
  same-answer : (script : List ℕ) (key : List (List ℕ)) (moment : Option ℕ) (g : Bool) (s : Script) (p : Packet) (hs : HasScript c.shelf.told script s) → IsKey s.schema key p → (w : HasWritten c) → IsAnswerOf hs.text key moment (mode_of g) w.refused w.text
      → DeliversAnswer (mode_of g) s (at_moment moment s p) c
  same-answer script key moment g s p hs is_key w t =
      let one : t.script ≡ s = script_single hs.text t.script s t.script_is hs.holds in
      let gives : GivesAnswer (mode_of g) s key moment w.refused w.text = subst (λ (x : Script). GivesAnswer (mode_of g) x key moment w.refused w.text) one t.gives in
      let packets : (gives.packet ∷ []) ∷ [] ≡ (p ∷ []) ∷ [] = keys_single s.schema (key_text key) ((gives.packet ∷ []) ∷ []) ((p ∷ []) ∷ []) gives.is_key is_key in
      let packet : gives.packet ≡ p = cc packets in
      record {
        written = subst (λ (o : List ℕ). Appends c.taken_before c.taken_now o) (gives.text_is ∙ ap (λ (x : Packet). get_text (mode_of g) s (at_moment moment s x)) packet) w.appends;
        status = w.status ∙ ap done_status (gives.refused_is ∙ ap (λ (x : Packet). has_no_answer (mode_of g) s (at_moment moment s x)) packet);
      }

  -- the explanation of the packets that were read
  same-explanation : (script keys_name : List ℕ) (g : Bool) (s : Script) (packets : List (List Packet)) (hs : HasScript c.shelf.told script s) (hk : HasKeys c.shelf.told keys_name s packets) → (w : HasWritten c) → IsExplanationOf hs.text hk.text (mode_of g) w.refused w.text
      → DeliversExplanation (mode_of g) s packets c
  same-explanation script keys_name g s packets hs hk w t =
      let one : t.script ≡ s = script_single hs.text t.script s t.script_is hs.holds in
      let their_keys : IsKeysText s.schema hk.text t.keys = subst (λ (x : Script). IsKeysText x.schema hk.text t.keys) one t.keys_are in
      let other : t.keys ≡ packets = keys_single s.schema hk.text t.keys packets their_keys hk.holds in
      let of_script : Explains (mode_of g) s t.keys w.refused w.text = subst (λ (x : Script). Explains (mode_of g) x t.keys w.refused w.text) one t.gives in
      let gives : Explains (mode_of g) s packets w.refused w.text = subst (λ (k : List (List Packet)). Explains (mode_of g) s k w.refused w.text) other of_script in
      record { written = subst (λ (o : List ℕ). Appends c.taken_before c.taken_now o) gives.text_is w.appends; status = w.status ∙ ap done_status gives.refused_is }

  -- the comparison of the scripts that were read
  same-comparison : (first second : List ℕ) (g : Bool) (s t : Script) (hs : HasScript c.shelf.told first s) (ht : HasScript c.shelf.told second t) → (w : HasWritten c) → IsComparisonOf first hs.text second ht.text (mode_of g) w.refused w.text
      → DeliversComparison (mode_of g) first s second t c
  same-comparison first second g s t hs ht w made =
      let one : made.script ≡ s = script_single hs.text made.script s made.script_is hs.holds in
      let two : made.other ≡ t = script_single ht.text made.other t made.other_is ht.holds in
      let with_first : GivesComparison (mode_of g) first s second made.other w.refused w.text = subst (λ (x : Script). GivesComparison (mode_of g) first x second made.other w.refused w.text) one made.gives in
      record { differs = w.refused; text = w.text; gives = subst (λ (x : Script). GivesComparison (mode_of g) first s second x w.refused w.text) two with_first; written = w.appends; status = w.status }

  -- what is kept of the ruleset that was read
  same-sets : (file : List ℕ) (s : Script) (h : HasRuleset c.shelf.told file s) (w : HasWritten c) → AreSetsIn h.text w.refused w.text → DeliversSets h.text s c
  same-sets file s h w t = record { kept = w.text; is_kept = t.is_kept; is_script = kept_script h.text w.text s t.is_kept h.holds; written = w.appends; status = w.status ∙ ap done_status t.refusal }

  -- words that are a key aren't none
  has-key : (script : List ℕ) (key : List (List ℕ)) (moment : Option ℕ) (g : Bool) (s : Script) (p : Packet) (hs : HasScript c.shelf.told script s) → IsKey s.schema key p → HasKey c.shelf.told (get script key moment g)
  has-key script key moment g s p hs is_key name other m k t line reason e reads bad =
      let here : script ≡ name = ap script_name e in
      let words : key ≡ other = ap key_words e in
      let is_t : IsScriptText hs.text t = (reads hs.text (subst (λ (n : List ℕ). c.shelf.told n ≡ Some hs.text) here hs.is_told)).1 in
      let one : t ≡ s = script_single hs.text t s is_t hs.holds in
      good-key s.schema key p line reason is_key (subst (λ (ws : List (List ℕ)). IsBadKey s.schema ws line reason) (sym words) (subst (λ (x : Script). IsBadKey x.schema other line reason) one bad))

  or-ran-out : (P : Type 0) → (HasWritten c → P) → HasWritten c ⊎ RanOut c → P ⊎ RanOut c
  or-ran-out P f (inl w) = inl (f w)
  or-ran-out P f (inr r) = inr r

  -- The output of the command was written.
  pub completes : Completes c
  completes = record {
    run = λ script keys n g s packets is_run hs hk.
        or-ran-out (DeliversRun n (mode_of g) s packets c)
        (λ w. same-files n (mode_of g) script keys s packets hs hk w (does c.answer c.words c.shelf (run script keys n g) w.refused w.text is_run w.has hs.text hk.text hs.is_told hk.is_told))
        (ended (run script keys n g) s.schema is_run (given-script c.shelf.told script s hs, (given-keys c.shelf.told keys s packets hk, tt)) (λ name k t e. absurd (cc e)) (λ name key m k t l r e. absurd (cc e)));
    judge = λ script rules keys n g s r packets is_judge hs hr hk.
        or-ran-out (DeliversJudgement n (mode_of g) s r packets c)
        (λ w. same-judgement n (mode_of g) script rules keys s r packets hs hr hk w (does c.answer c.words c.shelf (judge script rules keys n g) w.refused w.text is_judge w.has hs.text hr.text hk.text hs.is_told hr.is_told hk.is_told))
        (ended (judge script rules keys n g) s.schema is_judge (given-script c.shelf.told script s hs, (given-rules c.shelf.told rules s r hr, (given-keys c.shelf.told keys s packets hk, tt))) (λ name k t e. absurd (cc e)) (λ name key m k t l r e. absurd (cc e)));
    capture = λ script plan packets n g s taken is_capture hs hc.
        or-ran-out (DeliversRun n (mode_of g) s (taken ∷ []) c)
        (λ w. same-capture n (mode_of g) script plan packets s taken hs hc w (does c.answer c.words c.shelf (capture script plan packets n g) w.refused w.text is_capture w.has hs.text hc.plan.text hc.capture.text hs.is_told hc.plan.is_told hc.capture.is_told))
        (ended (capture script plan packets n g) s.schema is_capture (given-script c.shelf.told script s hs, (given-plan c.shelf.told plan packets s taken hc, (given-capture c.shelf.told plan packets s taken hc, tt))) (λ name k t e. absurd (cc e)) (λ name key m k t l r e. absurd (cc e)));
    judge_capture = λ script rules plan packets n g s r taken is_judge hs hr hc.
        or-ran-out (DeliversJudgement n (mode_of g) s r (taken ∷ []) c)
        (λ w. same-judged-capture n (mode_of g) script rules plan packets s r taken hs hr hc w (does c.answer c.words c.shelf (judge_capture script rules plan packets n g) w.refused w.text is_judge w.has hs.text hr.text hc.plan.text hc.capture.text hs.is_told hr.is_told hc.plan.is_told hc.capture.is_told))
        (ended (judge_capture script rules plan packets n g) s.schema is_judge (given-script c.shelf.told script s hs, (given-rules c.shelf.told rules s r hr, (given-plan c.shelf.told plan packets s taken hc, (given-capture c.shelf.told plan packets s taken hc, tt)))) (λ name k t e. absurd (cc e)) (λ name key m k t l r e. absurd (cc e)));
    list = λ script g s is_list hs.
        or-ran-out (DeliversText (mode_of g) s (listing_output c.answer (mode_of g) s) c)
        (λ w. same-script (listing_output c.answer) (mode_of g) script s hs w (does c.answer c.words c.shelf (list script g) w.refused w.text is_list w.has hs.text hs.is_told))
        (ended (list script g) s.schema is_list (given-script c.shelf.told script s hs, tt) (λ name k t e. absurd (cc e)) (λ name key m k t l r e. absurd (cc e)));
    dump = λ script g s is_dump hs.
        or-ran-out (DeliversText (mode_of g) s (tables_text (mode_of g) s) c)
        (λ w. same-script tables_text (mode_of g) script s hs w (does c.answer c.words c.shelf (dump script g) w.refused w.text is_dump w.has hs.text hs.is_told))
        (ended (dump script g) s.schema is_dump (given-script c.shelf.told script s hs, tt) (λ name k t e. absurd (cc e)) (λ name key m k t l r e. absurd (cc e)));
    stat = λ script g s is_stat hs.
        or-ran-out (DeliversText (mode_of g) s (stat_text (mode_of g) s) c)
        (λ w. same-script stat_text (mode_of g) script s hs w (does c.answer c.words c.shelf (stat script g) w.refused w.text is_stat w.has hs.text hs.is_told))
        (ended (stat script g) s.schema is_stat (given-script c.shelf.told script s hs, tt) (λ name k t e. absurd (cc e)) (λ name key m k t l r e. absurd (cc e)));
    desk = λ script g s is_desk hs few.
        or-ran-out (DeliversDesk s g c)
        (λ w. same-desk script g s hs w (does c.answer c.words c.shelf (desk script g) w.refused w.text is_desk w.has hs.text hs.is_told))
        (ended (desk script g) s.schema is_desk (given-script c.shelf.told script s hs, tt) (few-sections script g s hs few) (λ name key m k t l r e. absurd (cc e)));
    get = λ script key moment g s p is_get hs is_key.
        or-ran-out (DeliversAnswer (mode_of g) s (at_moment moment s p) c)
        (λ w. same-answer script key moment g s p hs is_key w (does c.answer c.words c.shelf (get script key moment g) w.refused w.text is_get w.has hs.text hs.is_told))
        (ended (get script key moment g) s.schema is_get (given-script c.shelf.told script s hs, tt) (λ name k t e. absurd (cc e)) (has-key script key moment g s p hs is_key));
    explain = λ script keys g s packets is_explain hs hk.
        or-ran-out (DeliversExplanation (mode_of g) s packets c)
        (λ w. same-explanation script keys g s packets hs hk w (does c.answer c.words c.shelf (explain script keys g) w.refused w.text is_explain w.has hs.text hk.text hs.is_told hk.is_told))
        (ended (explain script keys g) s.schema is_explain (given-script c.shelf.told script s hs, (given-keys c.shelf.told keys s packets hk, tt)) (λ name k t e. absurd (cc e)) (λ name key m k t l r e. absurd (cc e)));
    compare = λ first second g s t is_compare hs ht.
        or-ran-out (DeliversComparison (mode_of g) first s second t c)
        (λ w. same-comparison first second g s t hs ht w (does c.answer c.words c.shelf (compare first second g) w.refused w.text is_compare w.has hs.text ht.text hs.is_told ht.is_told))
        (ended (compare first second g) s.schema is_compare (given-script c.shelf.told first s hs, (given-second c.shelf.told second t s.schema ht, tt)) (λ name k t e. absurd (cc e)) (λ name key m k t l r e. absurd (cc e)));
    sets = λ file s is_sets h.
        or-ran-out (DeliversSets h.text s c)
        (λ w. same-sets file s h w (does c.answer c.words c.shelf (sets_of file) w.refused w.text is_sets w.has h.text h.is_told))
        (ended (sets_of file) s.schema is_sets (given-ruleset c.shelf.told file s s.schema h, tt) (λ name k t e. absurd (cc e)) (λ name key m k t l r e. absurd (cc e)));
    drill = λ seed count threads is_drill. or-ran-out _ (drilled c seed count threads is_drill) (ended (drill seed count threads) [] is_drill tt (λ name k t e. absurd (cc e)) (λ name key m k t l r e. absurd (cc e)));
    page = page-told c ends quiet.sink;
  }
