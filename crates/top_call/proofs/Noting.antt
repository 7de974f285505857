-- The note for a person beside a call's output.
use Rattle.std.proofs.Common.{◌≡◌, ◌∙◌, ap, ◌≤◌, refl, sym, subst, ℕ, Bool, true, List, Option, inl, inr, arith, false, [], ◌∷◌, ◌⊎◌, None, Result, Ok, Err, OnOk, OnErr}
use Rattle.command_words.specs.declared.form.AnswerForm.{AnswerForm}
use Rattle.command_words.specs.declared.page.Page.{Page}
use Rattle.command_words.specs.Words.{Command, IsCommand, IsNoCommand, IsSetsCommand, AsksFor, desk, get, compare, sets_of}
use Rattle.command_words.proofs.CommandWords.{one-command}
use Rattle.command_words.proofs.PageWords.{page-no-command}
use Rattle.std.proofs.Common.{codes}
use Rattle.token_notes.specs.Shown.{Begins, BeginsAtPlace, name_text}
use Rattle.token_forms.specs.declared.token.Reason.{Reason}
use Rattle.skip_notes.specs.Skips.{skips_text}
use Rattle.fault_notes.specs.Told.{MayTell, nothing, note, SaysTold, did_tell, told_nothing}
use Rattle.ruleset_sets.specs.declared.skipped.Skipped.{Skipped}
use Rattle.input_files.specs.Works.{AreSetsOf}
use Rattle.fault_notes.proofs.ToldLaws.{may_tell, tells-as}
use Rattle.input_files.specs.declared.fault.FileFault.{FileFault}
use Rattle.input_files.specs.Noted.{IsNoteOn, StopsTelling}
use Rattle.input_files.specs.Reads.{Shelved}
use Rattle.top_call.specs.Calls.{Call}
use Rattle.top_call.specs.Causes.{HasManySections, HasNoKey}
use Rattle.top_call.specs.Lines.{done_status, file_status}
use Rattle.top_call.specs.Answers.{Ends, written, cut, memory, IsComplete, IsExactly, HasOutput}
use Rattle.key_answer.specs.declared.question.AnswerError.{AnswerError}
use Rattle.key_answer.specs.declared.question.AnswerError.TheVariants as errors
use Rattle.top_call.specs.Noted.{Ended, IsDueNote, IsErrorNote, TellsError, words_front, on_words, on_file, on_sections, on_key, on_changes, on_skips, AreSkipsOf, IsNoted}
use Rattle.set_model.specs.declared.memory.Memory.{Memory}
use Rattle.script_laws.specs.declared.output.Output.{Output}
use Rattle.script_laws.specs.declared.refusals.Refusal.{Refusal}
use Rattle.command_words.specs.declared.words.Task.{Task}
use Rattle.command_words.specs.declared.words.Task.TheVariants as tasks
use Rattle.command_words.specs.WordForms.{plain_task}
use Rattle.input_files.specs.Inputs.{ReadsAs, script, rules_of_nft, second as second_form, keys as keys_form, rules as rules_form, plan as plan_form, capture as capture_form}
use Rattle.top_call.specs.Refused.{AreRefused, HasNothingToTell, HasTold, IsNoteDue, IsNoteOnChanges, NamesScript, TellsChanges, TellsOf}
use Rattle.top_call.specs.Unmet.{SaysUnmet, TellsUnmet}
use Rattle.top_call.proofs.Endings.{file-above}

-- A call whose status and text are due ends with that status, or its sink failed.
pub ended-of : (due : ℕ) (text : List ℕ) (taken_before taken_now : Option (List ℕ)) (before now status : ℕ) → Ends (IsExactly due text) taken_before taken_now before now status → Ended due status
ended-of due text taken_before taken_now before now status (written s t is appends quiet) = inl is.0
ended-of due text taken_before taken_now before now status (cut s t is front rose) = inr refl
ended-of due text taken_before taken_now before now status (memory is keeps quiet) = inl is.0

ended-above : (due status : ℕ) → 1 ≤ due → Ended due status → status ≡ 0 → ⊥
ended-above due status above (inl is) e = omega (arith, above, is, e)
ended-above due status above (inr is) e = omega (arith, is, e)

due-above : (answer : AnswerForm) (words : List (List ℕ)) (shelf : Shelved) (status : ℕ) (text : List ℕ) → IsDueNote answer words shelf status text → status ≡ 0 → ((file : List ℕ) → IsSetsCommand words file → ⊥) → ⊥
due-above answer words shelf status text (on_words t none is ended) e other = ended-above 2 status (omega arith) ended e
due-above answer words shelf status text (on_file d fault stops t is_d is ended) e other = ended-above (file_status fault) status (let above = file-above fault in omega (arith, above)) ended e
due-above answer words shelf status text (on_sections name t has is ended) e other = ended-above 12 status (omega arith) ended e
due-above answer words shelf status text (on_key line reason t has begins ended) e other = ended-above 13 status (omega arith) ended e
due-above answer words shelf status text (on_changes c name output t refusals failed has is_c names are is ended) e other = ended-above 1 status (omega arith) ended e
due-above answer words shelf status text (on_skips file output t refused has is_sets are ended) e other = other file is_sets

-- Who knows the answer knows what was printed beside an error.
pub error-told : (error : AnswerError) {before now : Option (List ℕ)} {answer : Bool} → SaysTold (IsErrorNote error) before now answer → TellsError error before now
error-told (errors.BadKey line reason bad schema) says = may_tell says
error-told errors.Memory (did_tell text quiet is tells) = absurd is
error-told errors.Memory (told_nothing same) = same

-- A note was printed, or none, as memory ran out.
pub told-may : {T E : Type 0} (r : Result T E) (IsNote : List ℕ → Type 0) (before now : Option (List ℕ)) → OnOk r (HasTold IsNote before now) → OnErr r (now ≡ before) → MayTell IsNote before now
told-may (Ok x) IsNote before now h silent = note h.0 h.1 h.2 h.3
told-may (Err e) IsNote before now h silent = nothing silent

-- The same of the refused changes.
pub changes-may : (d : Command) (out : Output) (before now : Option (List ℕ)) (r : Result Bool Memory) → TellsChanges d out before now r → MayTell (IsNoteDue d out.refused out.refusals.items out.failed) before now
changes-may d out before now (Ok true) h = note h.0 h.1 h.2 h.3
changes-may d out before now (Ok false) h = nothing h.1
changes-may d out before now (Err e) h = nothing h

-- If the output reports a refusal, the answer is about the command whose script has this name.
pub changes-told : (d : Command) (name : List ℕ) (out : Output) (before now : Option (List ℕ)) (r : Result Bool Memory) → NamesScript d name → out.refused ≡ true → TellsOf (IsNoteOnChanges name out.refusals.items out.failed) out before now r → TellsChanges d out before now r
changes-told d name out before now (Ok true) names is h = (h.0, h.1, (name, names, is, h.2), h.3)
changes-told d name out before now (Ok false) names is h = (none h.0, h.1) where
  none : (out.refusals.items ≡ []) ⊎ (out.script ≡ None) → HasNothingToTell d out
  none (inl e) = inr (inl e)
  none (inr e) = inr (inr (inl e))
changes-told d name out before now (Err e) names is h = h

-- A command with a script names it.
pub script-named : (name : List ℕ) (task : Task) (keep_going : Bool) → NamesScript (plain_task name task keep_going) name
script-named name (tasks.Run keys threads) keep_going = (record { name = name; form = script }, record { name = keys.now; form = keys_form } ∷ [], refl, refl)
script-named name tasks.List keep_going = (record { name = name; form = script }, [], refl, refl)
script-named name tasks.Dump keep_going = (record { name = name; form = script }, [], refl, refl)
script-named name tasks.Stat keep_going = (record { name = name; form = script }, [], refl, refl)
script-named name (tasks.Judge rules keys threads) keep_going = (record { name = name; form = script }, record { name = rules.now; form = rules_form } ∷ record { name = keys.now; form = keys_form } ∷ [], refl, refl)
script-named name (tasks.Capture plan packets threads) keep_going = (record { name = name; form = script }, record { name = plan.now; form = plan_form } ∷ record { name = packets.now; form = capture_form } ∷ [], refl, refl)
script-named name (tasks.JudgeCapture rules plan packets threads) keep_going = (record { name = name; form = script }, record { name = rules.now; form = rules_form } ∷ record { name = plan.now; form = plan_form } ∷ record { name = packets.now; form = capture_form } ∷ [], refl, refl)
script-named name tasks.Desk keep_going = (record { name = name; form = script }, [], refl, refl)
script-named name (tasks.Get key moment) keep_going = (record { name = name; form = script }, [], refl, refl)
script-named name (tasks.Explain keys) keep_going = (record { name = name; form = script }, record { name = keys.now; form = keys_form } ∷ [], refl, refl)

-- The sets of a ruleset name it.
pub sets-named : (file : List ℕ) → NamesScript (sets_of file) file
sets-named file = (record { name = file; form = rules_of_nft }, [], refl, refl)

-- A comparison names its first script.
pub compare-named : (first second : List ℕ) (keep_going : Bool) → NamesScript (compare first second keep_going) first
compare-named first second keep_going = (record { name = first; form = script }, record { name = second; form = second_form } ∷ [], refl, refl)

-- A note on what isn't kept of a ruleset that was read is one on the file's bytes, if they are known.
pub skips-of : (told : List ℕ → Option (List ℕ)) (file whole slice kept : List ℕ) (skips : List Skipped) (before now : Option (List ℕ)) → slice ≡ whole → ReadsAs told file (λ text. (whole ≡ text) × AreSetsOf text kept skips)
    → MayTell (λ note. note ≡ skips_text file slice skips) before now → MayTell (AreSkipsOf told file) before now
skips-of told file whole slice kept skips before now same read tells =
    tells-as (λ note. note ≡ skips_text file slice skips) (AreSkipsOf told file) before now
    (λ note is text at. let r = (read text at).1 in is ∙ ap (λ (t : List ℕ). skips_text file t skips) (same ∙ r.0) ∙ ap (λ (ss : List Skipped). skips_text file text ss) r.1.skips_are) tells

-- No note is due to words that ask for a page.
page-due : (answer : AnswerForm) (words : List (List ℕ)) (shelf : Shelved) (status : ℕ) (text : List ℕ) (p : Page) → AsksFor words p → IsDueNote answer words shelf status text → ⊥
page-due answer words shelf status text p asks (on_words t none is ended) = none.no_page p asks
page-due answer words shelf status text p asks (on_file d fault stops t is_d is ended) = page-no-command words p d asks is_d
page-due answer words shelf status text p asks (on_sections name t has is ended) = page-no-command words p (desk name has.keep_going) asks has.is_desk
page-due answer words shelf status text p asks (on_key line reason t has begins ended) = page-no-command words p (get has.name has.key has.moment has.keep_going) asks has.is_get
page-due answer words shelf status text p asks (on_changes c name output t refusals failed has is_c names are is ended) = page-no-command words p has.command asks has.is_command
page-due answer words shelf status text p asks (on_skips file output t refused has is_sets are ended) = page-no-command words p (sets_of file) asks is_sets

module _ (c : Call) where
  abbrev pub IsDueAfter : Option (List ℕ) → Type 0
  IsDueAfter mid = MayTell (IsDueNote c.answer c.words c.shelf c.status) mid c.noted_now

  -- There is no output, and nothing is written on tests.
  pub untested : (IsComplete c.status → ⊥) → IsDueAfter c.noted_before → IsNoted c
  untested undone other = record { noted = c.noted_before; tests = inl refl; all_tests = λ e. absurd (undone e); other = other }

  -- All files were read, and the lines on the tests were written.
  pub tested : (d : Command) → IsCommand c.words d → (mid : Option (List ℕ)) → TellsUnmet c.shelf.told d c.noted_before mid → IsDueAfter mid → IsNoted c
  tested d is_d mid tests other =
      record { noted = mid; tests = inr (d, is_d, tests); all_tests = λ e x is_x. subst (λ (y : Command). TellsUnmet c.shelf.told y c.noted_before mid) (one-command c.words d x is_d is_x) tests; other = other }

  -- With status 0 no note was written, but the lines on tests, and one on what isn't kept of a ruleset.
  pub no-note : IsNoted c → c.status ≡ 0 → ((file : List ℕ) → IsSetsCommand c.words file → ⊥) → (d : Command) → IsCommand c.words d → TellsUnmet c.shelf.told d c.noted_before c.noted_now
  no-note n e other d is_d = subst (λ (b : Option (List ℕ)). TellsUnmet c.shelf.told d c.noted_before b) (sym (still n.other)) (n.all_tests (inl e) d is_d) where
    still : IsDueAfter n.noted → c.noted_now ≡ n.noted
    still (nothing same) = same
    still (note text quiet due told) = absurd (due-above c.answer c.words c.shelf c.status text due e other)

  -- With a page no note was written.
  pub page-quiet : (p : Page) → AsksFor c.words p → IsNoted c → c.noted_now ≡ c.noted_before
  page-quiet p asks n = still n.other ∙ untold n.tests where
    still : IsDueAfter n.noted → c.noted_now ≡ n.noted
    still (nothing same) = same
    still (note text quiet due told) = absurd (page-due c.answer c.words c.shelf c.status text p asks due)

    untold : SaysUnmet c.words c.shelf.told c.noted_before n.noted → n.noted ≡ c.noted_before
    untold (inl same) = same
    untold (inr tells) = absurd (page-no-command c.words p tells.0 asks tells.1)

  -- The note on words that are no command is due.
  pub words-noted : IsNoCommand c.words → Ended 2 c.status → MayTell (Begins words_front) c.noted_before c.noted_now → IsDueAfter c.noted_before
  words-noted none ended tells = tells-as (Begins words_front) (IsDueNote c.answer c.words c.shelf c.status) c.noted_before c.noted_now (λ text is. on_words text none is ended) tells

  -- The note on a file that can't be had is due.
  pub file-noted : (d : Command) (fault : FileFault) → IsCommand c.words d → StopsTelling c.shelf d c.noted_before c.noted_now fault → Ended (file_status fault) c.status → IsDueAfter c.noted_before
  file-noted d fault is_d s ended =
      tells-as (IsNoteOn c.shelf.told s.stops.sets s.stops.input.name fault) (IsDueNote c.answer c.words c.shelf c.status) c.noted_before c.noted_now (λ text is. on_file d fault s.stops text is_d is ended) s.noted

  -- The note on a desk's script with too many sections is due.
  pub sections-noted : (name : List ℕ) → HasManySections c.words c.shelf name → Ended 12 c.status → (mid : Option (List ℕ)) → MayTell (Begins (name_text name)) mid c.noted_now → IsDueAfter mid
  sections-noted name has ended mid tells = tells-as (Begins (name_text name)) (IsDueNote c.answer c.words c.shelf c.status) mid c.noted_now (λ text is. on_sections name text has is ended) tells

  -- The note on words of a `get` that are no key is due.
  pub key-noted : (line : ℕ) (reason : Reason) → HasNoKey c.words c.shelf line reason → Ended 13 c.status → (mid : Option (List ℕ)) → MayTell (BeginsAtPlace (codes "key")) mid c.noted_now → IsDueAfter mid
  key-noted line reason has ended mid tells = tells-as (BeginsAtPlace (codes "key")) (IsDueNote c.answer c.words c.shelf c.status) mid c.noted_now (λ text is. on_key line reason text has is ended) tells

  -- The note on refused changes is due.
  pub changes-noted : (d : Command) (refused : Bool) (output : List ℕ) (refusals : List Refusal) (failed : Bool) → HasOutput c.answer c.words c.shelf refused output → IsCommand c.words d → AreRefused d c.shelf.told refused output refusals failed
      → Ended (done_status refused) c.status → (mid : Option (List ℕ)) → MayTell (IsNoteDue d refused refusals failed) mid c.noted_now → IsDueAfter mid
  changes-noted d refused output refusals failed has is_d are ended mid tells =
      tells-as (IsNoteDue d refused refusals failed) (IsDueNote c.answer c.words c.shelf c.status) mid c.noted_now
      (λ text is. on_changes d is.0 output text refusals failed (subst (λ (r : Bool). HasOutput c.answer c.words c.shelf r output) is.2 has) is_d is.1 (subst (λ (r : Bool). AreRefused d c.shelf.told r output refusals failed) is.2 are) is.3 (subst (λ (r : Bool). Ended (done_status r) c.status) is.2 ended)) tells

  -- The note on what isn't kept of a ruleset is due.
  pub skips-noted : (file : List ℕ) (refused : Bool) (output : List ℕ) → HasOutput c.answer c.words c.shelf refused output → IsSetsCommand c.words file → Ended (done_status refused) c.status
      → (mid : Option (List ℕ)) → MayTell (AreSkipsOf c.shelf.told file) mid c.noted_now → IsDueAfter mid
  skips-noted file refused output has is_sets ended mid tells = tells-as (AreSkipsOf c.shelf.told file) (IsDueNote c.answer c.words c.shelf c.status) mid c.noted_now (λ text are. on_skips file output text refused has is_sets are ended) tells
