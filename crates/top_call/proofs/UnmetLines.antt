-- The lines on the tests of a work's rules are those of the command's.
use Rattle.std.proofs.Common.{◌∙◌, refl, sym, ap, subst, ℕ, List, [], Option}
use Rattle.std.proofs.lemmas.List.Elements.{All-nil}
use Rattle.set_model.specs.declared.script.SetDecl.{SetDecl}
use Rattle.rule_chain.specs.Unmet.{sets_of}
use Rattle.unmet_tests.specs.UnmetText.{plan_sets, unmet_text}
use Rattle.token_notes.specs.Shown.{IsNoteByte}
use Rattle.command_words.specs.Words.{Command, sets_of as sets_command}
use Rattle.input_files.specs.declared.work.Work.{Work}
use Rattle.input_files.specs.declared.work.Work.TheVariants as works
use Rattle.input_files.specs.Works.{IsWork, IsDoable}
use Rattle.top_call.specs.Unmet.{AreUnmet, SaysLines, TellsUnmet, unmet_of}

are-unmet : (told : List ℕ → Option (List ℕ)) (c : Command) (w : Work) → IsWork told c w → IsDoable w → AreUnmet c told (unmet_of w)
are-unmet told c (works.Judge s file keys n g) w d = subst (λ (x : Command). AreUnmet x told (unmet_of (works.Judge s file keys n g))) (sym w.2) (λ script_text rules_text keys_text at at_rules at_keys. record {
  script = s;
  chains = (file.chains.chains, file.chains.accept);
  sets = sets_of keys;
  script_is = (w.3 script_text at).1;
  rules_are = (w.4.read rules_text at_rules).1;
  keyed = (keys, (w.5 keys_text at_keys).1, refl);
  lines_are = ap (λ (t : List ℕ). unmet_text file.name.now t file.chains.schema (sets_of keys) file.chains.chains) (w.4.is_text rules_text at_rules) ∙ ap (λ (ds : List SetDecl). unmet_text file.name.now rules_text ds (sets_of keys) file.chains.chains) d.1;
})
are-unmet told c (works.JudgeCapture s file plan frames n g) w d = subst (λ (x : Command). AreUnmet x told (unmet_of (works.JudgeCapture s file plan frames n g))) (sym w.3) (λ script_text rules_text plan_text at at_rules at_plan. record {
  script = s;
  chains = (file.chains.chains, file.chains.accept);
  sets = plan_sets plan;
  script_is = (w.4 script_text at).1;
  rules_are = (w.5.read rules_text at_rules).1;
  keyed = (plan, (w.6 plan_text at_plan).1, refl);
  lines_are = ap (λ (t : List ℕ). unmet_text file.name.now t file.chains.schema (plan_sets plan) file.chains.chains) (w.5.is_text rules_text at_rules) ∙ ap (λ (ds : List SetDecl). unmet_text file.name.now rules_text ds (plan_sets plan) file.chains.chains) d.1;
})
are-unmet told c (works.Run s packets n g) w d = subst (λ (x : Command). AreUnmet x told []) (sym w.2) refl
are-unmet told c (works.List s g) w d = subst (λ (x : Command). AreUnmet x told []) (sym w.1) refl
are-unmet told c (works.Dump s g) w d = subst (λ (x : Command). AreUnmet x told []) (sym w.1) refl
are-unmet told c (works.Stat s g) w d = subst (λ (x : Command). AreUnmet x told []) (sym w.1) refl
are-unmet told c (works.Capture s plan frames n g) w d = subst (λ (x : Command). AreUnmet x told []) (sym w.3) refl
are-unmet told c (works.Desk s g) w d = subst (λ (x : Command). AreUnmet x told []) (sym w.1) refl
are-unmet told c (works.Get s key moment g) w d = subst (λ (x : Command). AreUnmet x told []) (sym w.1) refl
are-unmet told c (works.Explain s packets g) w d = subst (λ (x : Command). AreUnmet x told []) (sym w.2) refl
are-unmet told c (works.Compare a s b t g) w d = subst (λ (x : Command). AreUnmet x told []) (sym w.0) refl
are-unmet told c (works.Sets f whole sieved) w d = subst (λ (x : Command). AreUnmet x told []) (sym w.0) refl
are-unmet told c (works.Drill seed count n) w d = subst (λ (x : Command). AreUnmet x told []) (sym w) refl

pub tells-unmet : (told : List ℕ → Option (List ℕ)) (c : Command) (w : Work) (before now : Option (List ℕ)) → IsWork told c w → IsDoable w → SaysLines (unmet_of w) before now → TellsUnmet told c before now
tells-unmet told c w before now is_work doable says = record { lines = unmet_of w; are = are-unmet told c w is_work doable; says = says }

-- The sets of a ruleset have no rules.
pub sets-unmet : (told : List ℕ → Option (List ℕ)) (file : List ℕ) (noted : Option (List ℕ)) → TellsUnmet told (sets_command file) noted noted
sets-unmet told file noted = record { lines = []; are = refl; says = record { quiet = All-nil IsNoteByte; none = λ e. refl; some = λ other. absurd (other refl) } }
