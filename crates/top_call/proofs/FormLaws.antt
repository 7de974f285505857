-- Calls whose scripts are given in a form.
use Rattle.std.proofs.Common.{refl, sym, ◌∙◌, subst, ◌≡◌, ◌≢◌, ℕ, ◌==◌, cond, eqb-true, Bool, true, false, ◌&&◌, List, [], ◌∷◌, Option, inl, inr}
use Rattle.std.specs.Prelude.{All}
use Rattle.std.proofs.lemmas.List.Elements.{All-nil}
use Rattle.command_words.specs.declared.form.ScriptForm.{ScriptForm}
use Rattle.command_words.specs.declared.form.ScriptForm.TheVariants as forms
use Rattle.command_words.specs.declared.words.Task.{Task}
use Rattle.command_words.specs.declared.words.Task.TheVariants as tasks
use Rattle.command_words.specs.FormOptions.{rulesets_of, scripts_of}
use Rattle.command_words.specs.WordForms.{plain_task}
use Rattle.command_words.specs.Words.{Command, IsCommand}
use Rattle.command_words.proofs.CommandWords.{one-command}
use Rattle.token_notes.specs.Shown.{IsNoteByte}
use Rattle.pip_base.specs.Notes.{Tells}
use Rattle.input_files.specs.Seen.{AreAllSkips}
use Rattle.top_call.specs.Calls.{Call}
use Rattle.top_call.specs.declared.fault.Fault.{Fault}
use Rattle.top_call.specs.Answers.{Ends, IsComplete, IsExactly}
use Rattle.top_call.specs.Lines.{status_of}
use Rattle.top_call.specs.Forms.{AreRulesets, TellsSkips, SaysSkips, CountsLeftOut, InForm, counts_left_out, seen_call, with_left_out}
use Rattle.top_call.specs.Promises.{Goes, Promises}
use Rattle.top_call.proofs.Endings.{fault-not-done}
use Rattle.top_call.proofs.Exact.{promises}

-- a command on a script has one
pub one_script : (name : List ℕ) (task : Task) (keep_going : Bool) → scripts_of (plain_task name task keep_going) ≡ name ∷ []
one_script name (tasks.Run keys threads) keep_going = refl
one_script name tasks.List keep_going = refl
one_script name tasks.Dump keep_going = refl
one_script name tasks.Stat keep_going = refl
one_script name (tasks.Judge rules keys threads) keep_going = refl
one_script name (tasks.Capture plan packets threads) keep_going = refl
one_script name (tasks.JudgeCapture rules plan packets threads) keep_going = refl
one_script name tasks.Desk keep_going = refl
one_script name (tasks.Get key moment) keep_going = refl
one_script name (tasks.Explain keys) keep_going = refl

-- the rulesets of a command are those of its words
pub are-rulesets : (form : ScriptForm) (words : List (List ℕ)) (d : Command) (names : List (List ℕ)) → IsCommand words d → names ≡ rulesets_of form d → AreRulesets form words names
are-rulesets forms.Script words d names is_d same = same
are-rulesets forms.Ruleset words d names is_d same = λ c is_c. subst (λ (x : Command). names ≡ scripts_of x) (one-command words d c is_d is_c) same

-- Without rulesets there is no line.
no-skips : (told : List ℕ → Option (List ℕ)) (asked : List (List ℕ)) (lines : List ℕ) (leaves : Bool) → AreAllSkips told [] asked lines leaves → lines ≡ []
no-skips told [] lines leaves all = all.0
no-skips told (name ∷ asked) lines leaves all = let first : all.0 ≡ [] = (all.6.none refl).0 in let others : all.1 ≡ [] = no-skips told asked all.1 all.3 all.7 in all.4 ∙ (rw (first, others) refl)

says-skips : (form : ScriptForm) (told : List ℕ → Option (List ℕ)) (d : Command) (names asked : List (List ℕ)) (before now : Option (List ℕ)) (leaves : Bool) → names ≡ rulesets_of form d → TellsSkips told names asked before now leaves → SaysSkips form told names asked before now leaves
says-skips forms.Ruleset told d names asked before now leaves same tells = inr tells
says-skips forms.Script told d names asked before now leaves same tells =
    tells.none (no-skips told asked tells.lines leaves (subst (λ (ns : List (List ℕ)). AreAllSkips told ns asked tells.lines leaves) same tells.are))

silent-skips : (form : ScriptForm) (told : List ℕ → Option (List ℕ)) (names asked : List (List ℕ)) (noted : Option (List ℕ)) (leaves : Bool) → SaysSkips form told names asked noted noted leaves
silent-skips forms.Script told names asked noted leaves = refl
silent-skips forms.Ruleset told names asked noted leaves = inl refl

-- Of no file there is no line, and none leaves a set out.
none-asked : (told : List ℕ → Option (List ℕ)) (names asked : List (List ℕ)) (noted : Option (List ℕ)) → asked ≡ [] → TellsSkips told names asked noted noted false
none-asked told names asked noted nothing =
    record { lines = []; are = subst (λ (ns : List (List ℕ)). AreAllSkips told names ns [] false) (sym nothing) (refl, refl); quiet = All-nil IsNoteByte; none = λ e. refl; some = λ other. absurd (other refl) }

-- A command on one script counts no set that is left out.
pub task_counts_none : (name : List ℕ) (task : Task) (keep_going : Bool) → counts_left_out (plain_task name task keep_going) ≡ false
task_counts_none name (tasks.Run keys threads) keep_going = refl
task_counts_none name tasks.List keep_going = refl
task_counts_none name tasks.Dump keep_going = refl
task_counts_none name tasks.Stat keep_going = refl
task_counts_none name (tasks.Judge rules keys threads) keep_going = refl
task_counts_none name (tasks.Capture plan packets threads) keep_going = refl
task_counts_none name (tasks.JudgeCapture rules plan packets threads) keep_going = refl
task_counts_none name tasks.Desk keep_going = refl
task_counts_none name (tasks.Get key moment) keep_going = refl
task_counts_none name (tasks.Explain keys) keep_going = refl

-- The status is the same if the command doesn't count what is left out, if nothing is left out, and if there is no output.
pub same-uncounted : (d : Command) (leaves : Bool) (status : ℕ) → counts_left_out d ≡ false → status ≡ with_left_out (counts_left_out d && leaves) status
same-uncounted d leaves status none = rw none refl

same-kept : (counts : Bool) (status : ℕ) → status ≡ with_left_out (counts && false) status
same-kept true status = refl
same-kept false status = refl

same-incomplete : (counts : Bool) (status : ℕ) → (IsComplete status → ⊥) → status ≡ with_left_out counts status
same-incomplete false status none = refl
same-incomplete true status none = go (status == 0) refl where
  go : (is_zero : Bool) → (status == 0) ≡ is_zero → status ≡ cond is_zero 1 status
  go false e = refl
  go true e = absurd (none (inl (eqb-true status 0 e)))

counts-of : (words : List (List ℕ)) (d : Command) (leaves : Bool) (other status : ℕ) → IsCommand words d → status ≡ with_left_out (counts_left_out d && leaves) other → CountsLeftOut words leaves other status
counts-of words d leaves other status is_d same =
    record { of_command = λ c is_c. subst (λ (x : Command). status ≡ with_left_out (counts_left_out x && leaves) other) (one-command words d c is_d is_c) same; of_others = λ none. absurd (none d is_d) }

no-rulesets : (form : ScriptForm) (words : List (List ℕ)) → ((d : Command) → IsCommand words d → ⊥) → AreRulesets form words []
no-rulesets forms.Script words none = refl
no-rulesets forms.Ruleset words none = λ d is_d. absurd (none d is_d)

module _ (form : ScriptForm) (c : Call) where
  -- Words that are no command have no rulesets.
  pub in-no-command : ((d : Command) → IsCommand c.words d → ⊥) → c.shelf.asked ≡ [] → Goes (seen_call [] c.noted_before c.status c) → InForm form c Goes
  in-no-command none nothing goes = record {
    rulesets = [];
    noted = c.noted_before;
    leaves = false;
    status = c.status;
    are_rulesets = no-rulesets form c.words none;
    skips = silent-skips form c.shelf.told [] c.shelf.asked c.noted_before false;
    all_said = λ e. none-asked c.shelf.told [] c.shelf.asked c.noted_before nothing;
    counts = record { of_command = λ d is_d. absurd (none d is_d); of_others = λ e. refl };
    holds = goes;
  }

  in-silent : (d : Command) (names : List (List ℕ)) → IsCommand c.words d → names ≡ rulesets_of form d → (IsComplete c.status → TellsSkips c.shelf.told names c.shelf.asked c.noted_before c.noted_before false) → Goes (seen_call names c.noted_before c.status c) → InForm form c Goes
  in-silent d names is_d same said goes = record {
    rulesets = names;
    noted = c.noted_before;
    leaves = false;
    status = c.status;
    are_rulesets = are-rulesets form c.words d names is_d same;
    skips = silent-skips form c.shelf.told names c.shelf.asked c.noted_before false;
    all_said = said;
    counts = counts-of c.words d false c.status c.status is_d (same-kept (counts_left_out d) c.status);
    holds = goes;
  }

  -- memory ran out for the words
  pub in-early : (d : Command) → IsCommand c.words d → c.shelf.asked ≡ [] → Goes (seen_call (rulesets_of form d) c.noted_before c.status c) → InForm form c Goes
  in-early d is_d nothing goes = in-silent d (rulesets_of form d) is_d refl (λ e. none-asked c.shelf.told (rulesets_of form d) c.shelf.asked c.noted_before nothing) goes

  -- Nothing is noted of rulesets that weren't all read.
  pub in-fault : (d : Command) (names : List (List ℕ)) (fault : Fault) (line : List ℕ) → IsCommand c.words d → names ≡ rulesets_of form d → Ends (IsExactly (status_of fault) line) c.taken_before c.taken_now c.faults_before c.faults_now c.status
      → Goes (seen_call names c.noted_before c.status c) → InForm form c Goes
  in-fault d names fault line is_d same ends goes = in-silent d names is_d same (λ e. absurd (fault-not-done fault line c.taken_before c.taken_now c.faults_before c.faults_now c.status ends e)) goes

  -- All files were read. Without what is left out of them, the status is this one.
  pub in-noted : (d : Command) (names : List (List ℕ)) (noted : Option (List ℕ)) (leaves : Bool) (status : ℕ) → IsCommand c.words d → names ≡ rulesets_of form d → TellsSkips c.shelf.told names c.shelf.asked c.noted_before noted leaves
      → c.status ≡ with_left_out (counts_left_out d && leaves) status → Goes (seen_call names noted status c) → InForm form c Goes
  in-noted d names noted leaves status is_d same tells counted goes = record {
    rulesets = names;
    noted = noted;
    leaves = leaves;
    status = status;
    are_rulesets = are-rulesets form c.words d names is_d same;
    skips = says-skips form c.shelf.told d names c.shelf.asked c.noted_before noted leaves same tells;
    all_said = λ e. tells;
    counts = counts-of c.words d leaves status c.status is_d counted;
    holds = goes;
  }

  -- All files were read, and there is no output.
  pub in-refused : (d : Command) (names : List (List ℕ)) (noted : Option (List ℕ)) (leaves : Bool) (fault : Fault) (line : List ℕ) → IsCommand c.words d → names ≡ rulesets_of form d → TellsSkips c.shelf.told names c.shelf.asked c.noted_before noted leaves
      → Ends (IsExactly (status_of fault) line) c.taken_before c.taken_now c.faults_before c.faults_now c.status → Goes (seen_call names noted c.status c) → InForm form c Goes
  in-refused d names noted leaves fault line is_d same tells ends goes =
      in-noted d names noted leaves c.status is_d same tells (same-incomplete (counts_left_out d && leaves) c.status (λ e. fault-not-done fault line c.taken_before c.taken_now c.faults_before c.faults_now c.status ends e)) goes

  -- What a call promises follows of how it ends, in either form.
  pub promises-in : InForm form c Goes → InForm form c Promises
  promises-in g =
      record { rulesets = g.rulesets; noted = g.noted; leaves = g.leaves; status = g.status; are_rulesets = g.are_rulesets; skips = g.skips; all_said = g.all_said; counts = g.counts; holds = promises (seen_call g.rulesets g.noted g.status c) g.holds }

-- The lines on all files that were read.
pub skips-told : (told : List ℕ → Option (List ℕ)) (names asked files : List (List ℕ)) (lines : List ℕ) (leaves : Bool) (before mid now : Option (List ℕ)) → asked ≡ files → AreAllSkips told names files lines leaves → mid ≡ before
    → All IsNoteByte lines → (lines ≡ [] → now ≡ mid) → (lines ≢ [] → Tells mid now lines) → TellsSkips told names asked before now leaves
skips-told told names asked files lines leaves before mid now same are silent quiet none some =
    record { lines = lines; are = subst (λ (ns : List (List ℕ)). AreAllSkips told names ns lines leaves) (sym same) are; quiet = quiet; none = λ e. none e ∙ silent; some = λ other. subst (λ (b : Option (List ℕ)). Tells b now lines) silent (some other) }
