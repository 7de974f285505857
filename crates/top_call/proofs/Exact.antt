-- Each status comes exactly if its cause is there.
use Rattle.std.specs.Borrow.{Bor}
use Rattle.std.proofs.Common.{Bool, false, ap, sym, ◌≡◌, ◌≤◌, ◌<◌, ◌∙◌, refl, subst, ℕ, List, [], ◌∷◌, ◌++◌, length, Option, Some, inl, inr, arith}
use Rattle.std.specs.Prelude.{◌⊎◌}
use Rattle.pip_base.specs.Causes.{Rose}
use Rattle.set_model.specs.declared.script.Script.{Script}
use Rattle.set_model.specs.declared.script.SetDecl.{SetDecl}
use Rattle.set_model.specs.declared.packet.Packet.{Packet}
use Rattle.set_model.specs.Control.{Mode, mode_of, has_refusal}
use Rattle.command_words.specs.declared.form.AnswerForm.{AnswerForm}
use Rattle.command_words.specs.Words.{Command, IsCommand, IsNoCommand, desk, get}
use Rattle.command_words.proofs.CommandWords.{one-command}
use Rattle.command_words.proofs.PageWords.{page-no-command}
use Rattle.input_files.specs.declared.fault.Flaw.{Flaw}
use Rattle.input_files.specs.declared.fault.FileFault.{FileFault}
use Rattle.input_files.specs.declared.fault.FileFault.TheVariants as files
use Rattle.input_files.specs.Inputs.{Input, inputs, form_of, IsOf}
use Rattle.input_files.specs.Reads.{Shelved, AreOf, HasRead, StopsAt}
use Rattle.input_files.specs.Given.{AreGiven}
use Rattle.input_files.proofs.Turns.{Turns, before, behind, same, two-turns, of-one, of-front, given-one, given-front, given-as-read, given-refuses}
use Rattle.rule_chain.specs.Chains.{Rules}
use Rattle.set_script.proofs.ScriptWhole.{script_single}
use Rattle.key_answer.specs.Answer.{has_no_answer}
use Rattle.explain_answer.specs.Explained.{lacks_any}
use Rattle.key_answer.specs.Question.{IsKey, at_moment}
use Rattle.top_call.specs.Transcript.{IsOutput, most_sections, leaves_any}
use Rattle.pip_base.specs.Whole.{size_limit}
use Rattle.top_call.specs.declared.fault.Fault.{Fault}
use Rattle.top_call.specs.declared.fault.Fault.TheVariants.{Usage, File, TooManyClerks, BadKey, Memory}
use Rattle.top_call.specs.Calls.{Call, IsQuiet}
use Rattle.top_call.specs.Causes.{IsCause, no_command, of_file, too_many, bad_key, no_memory}
use Rattle.top_call.specs.Lines.{done_status, form_status, file_status, status_of}
use Rattle.top_call.specs.Answers.{Ends, EndsDuly, written, cut, memory, IsDue, output, page, refusal, Delivers}
use Rattle.top_call.specs.Exactly.{HasTurn, IsExact, IsStatus, Completes, DeliversText, DeliversRun, DeliversJudgement, DeliversDesk, DeliversAnswer, DeliversExplanation, DeliversComparison, DeliversSets, HasScript, RanOut}
use Rattle.top_call.specs.Promises.{Promises, Goes}
use Rattle.top_call.proofs.Noting.{no-note, page-quiet}
use Rattle.top_call.proofs.Endings.{does, page-told, transcribes, judges, captures, lists, dumps, weaves, answers-keys, explains-keys, drills, tells-page, compares, counts, judges-captures, writes-sets}
use Rattle.top_call.proofs.Completed.{completes, file-given, given-script, tells-read-fault, tells-flaw, tells-too-many, tells-bad-key, shelf-moved, sink-moved}

-- A file came to its turn, and the shelf shows its text.
module _ (shelf : Shelved) (quiet : Rose shelf.faults_before shelf.faults_now → ⊥) (c : Command) (earlier later : List Input) (i : Input) (sets : List SetDecl) (text : List ℕ)
    (in_order : inputs c ≡ earlier ++ i ∷ later) (given : AreGiven shelf.told sets earlier) (is_told : shelf.told i.name ≡ Some text) where
  -- if another file, in its turn, can't be had
  turns-of : (fault : FileFault) (s : StopsAt shelf c fault) → Turns s.earlier s.input earlier i
  turns-of fault s = two-turns s.earlier s.input s.later earlier i later (sym s.in_order ∙ in_order)

  -- too large a file
  large-flaw : (flaw : Flaw) (s : StopsAt shelf c (files.Bad flaw)) → size_limit < length text → Turns s.earlier s.input earlier i → ⊥
  large-flaw flaw s big (before rest e) =
      let g = subst (λ (z : List Input). AreGiven shelf.told sets z) e given in
      given-refuses shelf.told c s.earlier s.input s.later s.sets sets flaw s.in_order s.read_before.are_of s.cause.2 s.cause.3 (given-front shelf.told sets s.earlier (s.input ∷ rest) g) (given-one shelf.told sets s.earlier s.input rest g)
  large-flaw flaw s big (behind rest e) =
      let r = of-one shelf.told s.sets earlier i rest (subst (λ (z : List Input). AreOf shelf.told s.sets z) e s.read_before.are_of) text is_told in
      let fits : length text ≤ size_limit = r.0 in
      omega (arith, fits, big)
  large-flaw flaw s big (same e k) =
      let r = s.cause.3 text (ap (λ (x : Input). shelf.told x.name) k ∙ is_told) in
      let fits : length text ≤ size_limit = r.0 in
      omega (arith, fits, big)

  file-large : (fault : FileFault) → StopsAt shelf c fault → size_limit < length text → (file_status fault ≡ 8) ⊎ (file_status fault ≡ 7)
  file-large (files.Bad flaw) s big = absurd (large-flaw flaw s big (turns-of (files.Bad flaw) s))
  file-large (files.ReadFault name) s big = absurd (quiet s.cause.2)
  file-large (files.TooLarge name) s big = inl refl
  file-large files.Memory s big = inr refl

  read-large : HasRead shelf c → size_limit < length text → ⊥
  read-large r big =
      let t = of-one shelf.told r.sets earlier i later (subst (λ (z : List Input). AreOf shelf.told r.sets z) in_order r.all.are_of) text is_told in
      let fits : length text ≤ size_limit = t.0 in
      omega (arith, fits, big)

  -- a file that isn't of its form
  module _ (fits : length text ≤ size_limit) (outside : (others : List SetDecl) → AreGiven shelf.told others earlier → IsOf i.form others text → ⊥) where
    read-outside : (others : List SetDecl) (rest : List Input) → AreOf shelf.told others (earlier ++ i ∷ rest) → ⊥
    read-outside others rest are =
        outside others (given-as-read shelf.told sets others earlier given (of-front shelf.told others earlier (i ∷ rest) are)) (of-one shelf.told others earlier i rest are text is_told).1

    bad-flaw : (flaw : Flaw) (s : StopsAt shelf c (files.Bad flaw)) → Turns s.earlier s.input earlier i → form_status (form_of flaw) ≡ form_status i.form
    bad-flaw flaw s (before rest e) =
        absurd (let g = subst (λ (z : List Input). AreGiven shelf.told sets z) e given in
        given-refuses shelf.told c s.earlier s.input s.later s.sets sets flaw s.in_order s.read_before.are_of s.cause.2 s.cause.3 (given-front shelf.told sets s.earlier (s.input ∷ rest) g) (given-one shelf.told sets s.earlier s.input rest g))
    bad-flaw flaw s (behind rest e) = absurd (read-outside s.sets rest (subst (λ (z : List Input). AreOf shelf.told s.sets z) e s.read_before.are_of))
    bad-flaw flaw s (same e k) = ap form_status (s.cause.2 ∙ ap (λ (x : Input). x.form) k)

    bad-large : (name : Bor (List ℕ)) (s : StopsAt shelf c (files.TooLarge name)) → Turns s.earlier s.input earlier i → ⊥
    bad-large name s (before rest e) =
        let has = given-one shelf.told sets s.earlier s.input rest (subst (λ (z : List Input). AreGiven shelf.told sets z) e given) in
        let big : size_limit < length has.text = s.cause.3 has.text has.is_told in
        let within : length has.text ≤ size_limit = has.fits in
        omega (arith, big, within)
    bad-large name s (behind rest e) = read-outside s.sets rest (subst (λ (z : List Input). AreOf shelf.told s.sets z) e s.read_before.are_of)
    bad-large name s (same e k) =
        let big : size_limit < length text = s.cause.3 text (ap (λ (x : Input). shelf.told x.name) k ∙ is_told) in
        omega (arith, big, fits)

    file-bad : (fault : FileFault) → StopsAt shelf c fault → (file_status fault ≡ form_status i.form) ⊎ (file_status fault ≡ 7)
    file-bad (files.Bad flaw) s = inl (bad-flaw flaw s (turns-of (files.Bad flaw) s))
    file-bad (files.ReadFault name) s = absurd (quiet s.cause.2)
    file-bad (files.TooLarge name) s = absurd (bad-large name s (turns-of (files.TooLarge name) s))
    file-bad files.Memory s = inr refl

    read-bad : HasRead shelf c → ⊥
    read-bad r = read-outside r.sets later (subst (λ (z : List Input). AreOf shelf.told r.sets z) in_order r.all.are_of)

-- The result of a command of these words, by the results of its files.
module _ (answer : AnswerForm) (words : List (List ℕ)) (shelf : Shelved) (c : Command) (is_c : IsCommand words c) (status : ℕ) (no_read : HasRead shelf c → ⊥) (of_stop : (fault : FileFault) → StopsAt shelf c fault → (file_status fault ≡ status) ⊎ (file_status fault ≡ 7)) where
  cause-status : (fault : Fault) → IsCause words shelf fault → (status_of fault ≡ status) ⊎ (status_of fault ≡ 7)
  cause-status Usage (no_command none nothing quiet) = absurd (none.no_work c is_c)
  cause-status (File f) (of_file d g is_d s) = of_stop f (subst (λ (x : Command). StopsAt shelf x f) (one-command words d c is_d is_c) s)
  cause-status (TooManyClerks name) (too_many n h) = absurd (no_read (subst (λ (x : Command). HasRead shelf x) (one-command words (desk name.now h.keep_going) c h.is_desk is_c) h.has_read))
  cause-status (BadKey l r) (bad_key m q h) = absurd (no_read (subst (λ (x : Command). HasRead shelf x) (one-command words (get h.name h.key h.moment h.keep_going) c h.is_get is_c) h.has_read))
  cause-status Memory (no_memory d is_d asked quiet) = inr refl

  due-status : (result : ℕ) (text : List ℕ) → IsDue answer words shelf result text → (result ≡ status) ⊎ (result ≡ 7)
  due-status result text (output refused t has) = absurd (no_read (subst (λ (x : Command). HasRead shelf x) (one-command words has.command c has.is_command is_c) has.has_read))
  due-status result text (page p asks nothing quiet) = absurd (page-no-command words p c asks is_c)
  due-status result text (refusal fault cause) = cause-status fault cause

  ends-status : (taken_before taken_now : Option (List ℕ)) (b n result : ℕ) → Ends (IsDue answer words shelf) taken_before taken_now b n result → (Rose b n → ⊥) → (result ≡ status) ⊎ (result ≡ 7)
  ends-status taken_before taken_now b n result (written r text due appends quiet) sink = due-status r text due
  ends-status taken_before taken_now b n result (cut r text due front rose) sink = absurd (sink rose)
  ends-status taken_before taken_now b n result (memory due keeps quiet) sink = inr refl

-- If the words are a desk whose script has too many sections, its line is written.
module _ (answer : AnswerForm) (words : List (List ℕ)) (shelf : Shelved) (quiet : Rose shelf.faults_before shelf.faults_now → ⊥) (script : List ℕ) (keep_going : Bool) (s : Script) (is_desk : IsCommand words (desk script keep_going)) (hs : HasScript shelf.told script s) (many : most_sections < length s.sections) where
  cause-many : (fault : Fault) → IsCause words shelf fault → (status_of fault ≡ 12) ⊎ (status_of fault ≡ 7)
  cause-many Usage (no_command none nothing still) = absurd (none.no_work (desk script keep_going) is_desk)
  cause-many (File f) (of_file d g is_d stops) =
      inr (ap file_status (file-given words shelf quiet (desk script keep_going) is_desk s.schema (given-script shelf.told script s hs, tt) f (subst (λ (x : Command). StopsAt shelf x f) (one-command words d (desk script keep_going) is_d is_desk) stops)))
  cause-many (TooManyClerks name) (too_many n h) = inl refl
  cause-many (BadKey l r) (bad_key m q h) = absurd (let same = one-command words (get h.name h.key h.moment h.keep_going) (desk script keep_going) h.is_get is_desk in cc same)
  cause-many Memory (no_memory d is_d asked still) = inr refl

  not-woven : (refused : Bool) (text : List ℕ) → IsOutput answer (desk script keep_going) shelf.told refused text → ⊥
  not-woven refused text is_output =
      let w = is_output hs.text hs.is_told in
      let few = w.few in
      let size = ap (λ (x : Script). length x.sections) (script_single hs.text w.script s w.script_is hs.holds) in
      omega (arith, size, few, many)

  due-many : (result : ℕ) (text : List ℕ) → IsDue answer words shelf result text → (result ≡ 12) ⊎ (result ≡ 7)
  due-many result text (output refused t has) = absurd (not-woven refused t (does answer words shelf (desk script keep_going) refused t is_desk has))
  due-many result text (page p asks nothing still) = absurd (page-no-command words p (desk script keep_going) asks is_desk)
  due-many result text (refusal fault cause) = cause-many fault cause

  ends-many : (taken_before taken_now : Option (List ℕ)) (b n result : ℕ) → Ends (IsDue answer words shelf) taken_before taken_now b n result → (Rose b n → ⊥) → (result ≡ 12) ⊎ (result ≡ 7)
  ends-many taken_before taken_now b n result (written r text due appends still) sink = due-many r text due
  ends-many taken_before taken_now b n result (cut r text due front rose) sink = absurd (sink rose)
  ends-many taken_before taken_now b n result (memory due keeps still) sink = inr refl

-- If the words are a `get` whose words are no key, their line is written.
module _ (answer : AnswerForm) (words : List (List ℕ)) (shelf : Shelved) (quiet : Rose shelf.faults_before shelf.faults_now → ⊥) (script : List ℕ) (key : List (List ℕ)) (moment : Option ℕ) (keep_going : Bool) (s : Script) (is_get : IsCommand words (get script key moment keep_going)) (hs : HasScript shelf.told script s)
    (no_key : (p : Packet) → IsKey s.schema key p → ⊥) where
  cause-key : (fault : Fault) → IsCause words shelf fault → (status_of fault ≡ 13) ⊎ (status_of fault ≡ 7)
  cause-key Usage (no_command none nothing still) = absurd (none.no_work (get script key moment keep_going) is_get)
  cause-key (File f) (of_file d g is_d stops) =
      inr (ap file_status (file-given words shelf quiet (get script key moment keep_going) is_get s.schema (given-script shelf.told script s hs, tt) f (subst (λ (x : Command). StopsAt shelf x f) (one-command words d (get script key moment keep_going) is_d is_get) stops)))
  cause-key (TooManyClerks name) (too_many n h) = absurd (let same = one-command words (desk name.now h.keep_going) (get script key moment keep_going) h.is_desk is_get in cc same)
  cause-key (BadKey l r) (bad_key m q h) = inl refl
  cause-key Memory (no_memory d is_d asked still) = inr refl

  not-answered : (refused : Bool) (text : List ℕ) → IsOutput answer (get script key moment keep_going) shelf.told refused text → ⊥
  not-answered refused text is_output =
      let w = is_output hs.text hs.is_told in
      let one : w.script ≡ s = script_single hs.text w.script s w.script_is hs.holds in
      no_key w.gives.packet (subst (λ (x : Script). IsKey x.schema key w.gives.packet) one w.gives.is_key)

  due-key : (result : ℕ) (text : List ℕ) → IsDue answer words shelf result text → (result ≡ 13) ⊎ (result ≡ 7)
  due-key result text (output refused t has) = absurd (not-answered refused t (does answer words shelf (get script key moment keep_going) refused t is_get has))
  due-key result text (page p asks nothing still) = absurd (page-no-command words p (get script key moment keep_going) asks is_get)
  due-key result text (refusal fault cause) = cause-key fault cause

  ends-key : (taken_before taken_now : Option (List ℕ)) (b n result : ℕ) → Ends (IsDue answer words shelf) taken_before taken_now b n result → (Rose b n → ⊥) → (result ≡ 13) ⊎ (result ≡ 7)
  ends-key taken_before taken_now b n result (written r text due appends still) sink = due-key r text due
  ends-key taken_before taken_now b n result (cut r text due front rose) sink = absurd (sink rose)
  ends-key taken_before taken_now b n result (memory due keeps still) sink = inr refl

-- If the words are no command, the usage line is written.
module _ (answer : AnswerForm) (words : List (List ℕ)) (shelf : Shelved) (none : IsNoCommand words) where
  cause-usage : (fault : Fault) → IsCause words shelf fault → status_of fault ≡ 2
  cause-usage Usage (no_command other nothing quiet) = refl
  cause-usage (File f) (of_file d g is_d s) = absurd (none.no_work d is_d)
  cause-usage (TooManyClerks name) (too_many n h) = absurd (none.no_work (desk name.now h.keep_going) h.is_desk)
  cause-usage (BadKey l r) (bad_key m q h) = absurd (none.no_work (get h.name h.key h.moment h.keep_going) h.is_get)
  cause-usage Memory (no_memory d is_d asked quiet) = absurd (none.no_work d is_d)

  due-usage : (result : ℕ) (text : List ℕ) → IsDue answer words shelf result text → result ≡ 2
  due-usage result text (output refused t has) = absurd (none.no_work has.command has.is_command)
  due-usage result text (page p asks nothing quiet) = absurd (none.no_page p asks)
  due-usage result text (refusal fault cause) = cause-usage fault cause

  ends-usage : (taken_before taken_now : Option (List ℕ)) (b n result : ℕ) → Ends (IsDue answer words shelf) taken_before taken_now b n result → (Rose b n → ⊥) → result ≡ 2
  ends-usage taken_before taken_now b n result (written r text due appends quiet) sink = due-usage r text due
  ends-usage taken_before taken_now b n result (cut r text due front rose) sink = absurd (sink rose)
  ends-usage taken_before taken_now b n result (memory due keeps quiet) sink = absurd (let e = due-usage 7 [] due in omega (arith, e))

module _ (c : Call) (ends : EndsDuly c) (quiet : IsQuiet c) where
  in-turn : (status : ℕ) (earlier : List Input) (i : Input) (text : List ℕ) (t : HasTurn c earlier i text) → (HasRead c.shelf t.command → ⊥) → ((fault : FileFault) → StopsAt c.shelf t.command fault → (file_status fault ≡ status) ⊎ (file_status fault ≡ 7)) → IsStatus status c
  in-turn status earlier i text t no_read of_stop = ends-status c.answer c.words c.shelf t.command t.is_command status no_read of_stop c.taken_before c.taken_now c.faults_before c.faults_now c.status ends quiet.sink

  of-text : (mode : Mode) (s : Script) (text : List ℕ) → DeliversText mode s text c ⊎ RanOut c → IsStatus (done_status (has_refusal mode s)) c
  of-text mode s text (inl d) = inl d.status
  of-text mode s text (inr r) = inr r.0

  of-run : (n : ℕ) (mode : Mode) (s : Script) (packets : List (List Packet)) → DeliversRun n mode s packets c ⊎ RanOut c → IsStatus (done_status (has_refusal mode s)) c
  of-run n mode s packets (inl d) = inl d.delivers.status
  of-run n mode s packets (inr r) = inr r.0

  of-judgement : (n : ℕ) (mode : Mode) (s : Script) (r : Rules) (packets : List (List Packet)) → DeliversJudgement n mode s r packets c ⊎ RanOut c → IsStatus (done_status (has_refusal mode s)) c
  of-judgement n mode s r packets (inl d) = inl d.delivers.status
  of-judgement n mode s r packets (inr o) = inr o.0

  of-desk : (s : Script) (g : Bool) → DeliversDesk s g c ⊎ RanOut c → (refused : Bool) × IsStatus (done_status refused) c
  of-desk s g (inl d) = (d.refused, inl d.status)
  of-desk s g (inr r) = (false, inr r.0)

  of-answer : (mode : Mode) (s : Script) (p : Packet) → DeliversAnswer mode s p c ⊎ RanOut c → IsStatus (done_status (has_no_answer mode s p)) c
  of-answer mode s p (inl d) = inl d.status
  of-answer mode s p (inr r) = inr r.0

  of-explanation : (mode : Mode) (s : Script) (packets : List (List Packet)) → DeliversExplanation mode s packets c ⊎ RanOut c → IsStatus (done_status (lacks_any mode s packets)) c
  of-explanation mode s packets (inl d) = inl d.status
  of-explanation mode s packets (inr r) = inr r.0

  of-comparison : (mode : Mode) (first second : List ℕ) (s t : Script) → DeliversComparison mode first s second t c ⊎ RanOut c → (differs : Bool) × IsStatus (done_status differs) c
  of-comparison mode first second s t (inl d) = (d.differs, inl d.status)
  of-comparison mode first second s t (inr r) = (false, inr r.0)

  of-sets : (text : List ℕ) (s : Script) → DeliversSets text s c ⊎ RanOut c → IsStatus (done_status (leaves_any text)) c
  of-sets text s (inl d) = inl d.status
  of-sets text s (inr r) = inr r.0

  of-drill : (text : List ℕ) → Delivers text c ⊎ RanOut c → IsStatus 0 c
  of-drill text (inl d) = inl d.status
  of-drill text (inr r) = inr r.0

  done : Completes c
  done = completes c ends quiet

  exact : IsExact c
  exact = record {
    usage = λ none. ends-usage c.answer c.words c.shelf none c.taken_before c.taken_now c.faults_before c.faults_now c.status ends quiet.sink;
    large = λ earlier i text t big.
        in-turn 8 earlier i text t (λ r. read-large c.shelf quiet.shelf t.command earlier t.later i t.sets text t.in_order t.given t.is_told r big)
        (λ fault s. file-large c.shelf quiet.shelf t.command earlier t.later i t.sets text t.in_order t.given t.is_told fault s big);
    bad = λ earlier i text t fits outside.
        in-turn (form_status i.form) earlier i text t (λ r. read-bad c.shelf quiet.shelf t.command earlier t.later i t.sets text t.in_order t.given t.is_told fits outside r)
        (λ fault s. file-bad c.shelf quiet.shelf t.command earlier t.later i t.sets text t.in_order t.given t.is_told fits outside fault s);
    done_run = λ script keys n g s packets is_run hs hk. of-run n (mode_of g) s packets (done.run script keys n g s packets is_run hs hk);
    done_judge = λ script rules keys n g s r packets is_judge hs hr hk. of-judgement n (mode_of g) s r packets (done.judge script rules keys n g s r packets is_judge hs hr hk);
    done_capture = λ script plan packets n g s taken is_capture hs hc. of-run n (mode_of g) s (taken ∷ []) (done.capture script plan packets n g s taken is_capture hs hc);
    done_judge_capture = λ script rules plan packets n g s r taken is_judge hs hr hc. of-judgement n (mode_of g) s r (taken ∷ []) (done.judge_capture script rules plan packets n g s r taken is_judge hs hr hc);
    done_list = λ script g s is_list hs. of-text (mode_of g) s _ (done.list script g s is_list hs);
    done_dump = λ script g s is_dump hs. of-text (mode_of g) s _ (done.dump script g s is_dump hs);
    done_stat = λ script g s is_stat hs. of-text (mode_of g) s _ (done.stat script g s is_stat hs);
    too_many = λ script g s is_desk hs many. ends-many c.answer c.words c.shelf quiet.shelf script g s is_desk hs many c.taken_before c.taken_now c.faults_before c.faults_now c.status ends quiet.sink;
    done_desk = λ script g s is_desk hs few. of-desk s g (done.desk script g s is_desk hs few);
    bad_key = λ script key moment g s is_get hs no_key. ends-key c.answer c.words c.shelf quiet.shelf script key moment g s is_get hs no_key c.taken_before c.taken_now c.faults_before c.faults_now c.status ends quiet.sink;
    done_get = λ script key moment g s p is_get hs is_key. of-answer (mode_of g) s (at_moment moment s p) (done.get script key moment g s p is_get hs is_key);
    done_explain = λ script keys g s packets is_explain hs hk. of-explanation (mode_of g) s packets (done.explain script keys g s packets is_explain hs hk);
    done_compare = λ first second g s t is_compare hs ht. of-comparison (mode_of g) first second s t (done.compare first second g s t is_compare hs ht);
    done_sets = λ file s is_sets h. of-sets h.text s (done.sets file s is_sets h);
    done_drill = λ seed count n is_drill. of-drill _ (done.drill seed count n is_drill);
    done_page = λ p asks. (page-told c ends quiet.sink p asks).status;
  }

-- What a call promises follows of how it ends, and of the files that were read.
pub promises : (c : Call) → Goes c → Promises c
promises c g = record {
  ends = g.ends;
  exact = λ q. exact c g.ends q;
  complete = λ q. completes c g.ends q;
  run = λ e. transcribes c g.ends e;
  judge = λ e. judges c g.ends e;
  capture = λ e. captures c g.ends e;
  judge_capture = λ e. judges-captures c g.ends e;
  list = λ e. lists c g.ends e;
  dump = λ e. dumps c g.ends e;
  stat = λ e. counts c g.ends e;
  desk = λ e. weaves c g.ends e;
  get = λ e. answers-keys c g.ends e;
  explain = λ e. explains-keys c g.ends e;
  compare = λ e. compares c g.ends e;
  sets = λ e. writes-sets c g.ends e;
  drill = λ e. drills c g.ends e;
  page = λ e. tells-page c g.ends e;
  names = g.names;
  all_read = g.all_read;
  bad = λ form e. tells-flaw c g.ends form e;
  too_many = λ e. tells-too-many c g.ends e;
  bad_key = λ e. tells-bad-key c g.ends e;
  read_fault = λ e. tells-read-fault c g.ends e;
  shelf_count = λ moved. shelf-moved c.answer c.words c.shelf c.taken_before c.taken_now c.faults_before c.faults_now c.status g.ends moved;
  sink_count = λ moved. sink-moved c.answer c.words c.shelf c.taken_before c.taken_now c.faults_before c.faults_now c.status g.ends moved;
  noted = g.noted;
  no_note = λ e other d is_d. no-note c g.noted e other d is_d;
  page_without_note = λ p asks. page-quiet c p asks g.noted;
}
