-- The text that a command's work makes is the command's output.
use Rattle.std.specs.List.{list_any}
use Rattle.std.proofs.Common.{◌≡◌, ◌∙◌, ap, refl, sym, subst, ℕ, Bool, List, Option}
use Rattle.command_words.specs.declared.form.AnswerForm.{AnswerForm}
use Rattle.command_words.specs.Words.{Command}
use Rattle.input_files.specs.declared.work.Work.{Work}
use Rattle.input_files.specs.declared.work.Work.TheVariants as works
use Rattle.input_files.specs.Works.{IsWork, AreSetsOf}
use Rattle.ruleset_sets.specs.declared.skipped.Skipped.{Skipped}
use Rattle.ruleset_sets.specs.Kept.{IsKept, all_taken}
use Rattle.ruleset_sets.specs.RulesetText.{leaves_out}
use Rattle.set_script.specs.ScriptText.{IsScriptText}
use Rattle.pcap_keys.specs.Planned.{packets as planned_packets}
use Rattle.script_laws.specs.declared.output.Output.{Output}
use Rattle.top_call.specs.Refused.{AreRefused, GivesRefusals}
use Rattle.top_call.specs.Transcript.{IsOutput, GivesText, AreSetsIn}

-- What is kept of a ruleset was written.
sets-in : (bytes kept text : List ℕ) (skips : List Skipped) (refused : Bool) → AreSetsOf bytes kept skips → text ≡ kept → refused ≡ list_any (λ s. leaves_out s.why) skips → AreSetsIn bytes refused text
sets-in bytes kept text skips refused are same left_out = record {
  script = are.script;
  is_kept = subst (λ (t : List ℕ). IsKept bytes (all_taken bytes) t) (sym same) are.is_kept;
  is_script = subst (λ (t : List ℕ). IsScriptText t are.script) (sym same) are.is_script;
  refusal = left_out ∙ ap (λ (ss : List Skipped). list_any (λ s. leaves_out s.why) ss) are.skips_are;
}

pub is-output : (answer : AnswerForm) (told : List ℕ → Option (List ℕ)) (c : Command) (w : Work) (refused : Bool) (text : List ℕ) → IsWork told c w → GivesText answer w refused text → IsOutput answer c told refused text
is-output answer told c (works.Run s packets n g) refused text w h = subst (λ (x : Command). IsOutput answer x told refused text) (sym w.2) (λ script_text keys_text at at_keys. record {
  script = s;
  keys = packets;
  lines = h.0.lines;
  script_is = (w.3 script_text at).1;
  keys_are = (w.4 keys_text at_keys).1;
  legal = h.0.legal;
  text = h.0.text_is;
  refusal = h.1;
})
is-output answer told c (works.List s g) refused text w h = subst (λ (x : Command). IsOutput answer x told refused text) (sym w.1) (λ script_text at. record { script = s; script_is = (w.2 script_text at).1; text_is = h.0; refusal = h.1 })
is-output answer told c (works.Dump s g) refused text w h = subst (λ (x : Command). IsOutput answer x told refused text) (sym w.1) (λ script_text at. record { script = s; script_is = (w.2 script_text at).1; text_is = h.0; refusal = h.1 })
is-output answer told c (works.Stat s g) refused text w h = subst (λ (x : Command). IsOutput answer x told refused text) (sym w.1) (λ script_text at. record { script = s; script_is = (w.2 script_text at).1; text_is = h.0; refusal = h.1 })
is-output answer told c (works.Capture s plan frames n g) refused text w h = subst (λ (x : Command). IsOutput answer x told refused text) (sym w.3) (λ script_text plan_text capture_text at at_plan at_capture. record {
  script = s;
  packets = planned_packets plan frames;
  lines = h.0.lines;
  script_is = (w.4 script_text at).1;
  captured = record { plan = plan; frames = frames; is_plan = (w.5 plan_text at_plan).1; is_capture = (w.6 capture_text at_capture).1; made = refl };
  legal = h.0.legal;
  text = h.0.text_is;
  refusal = h.1;
})
is-output answer told c (works.Judge s file packets n g) refused text w h = subst (λ (x : Command). IsOutput answer x told refused text) (sym w.2) (λ script_text rules_text keys_text at at_rules at_keys. record {
  script = s;
  rules = record { schema = file.chains.schema; chains = file.chains.chains; accept = file.chains.accept };
  keys = packets;
  lines = h.0.lines;
  script_is = (w.3 script_text at).1;
  rules_are = record { over = h.0.over; is_text = (w.4.read rules_text at_rules).1 };
  keys_are = (w.5 keys_text at_keys).1;
  legal = h.0.legal;
  text = h.0.text_is;
  refusal = h.1;
})
is-output answer told c (works.JudgeCapture s file plan frames n g) refused text w h = subst (λ (x : Command). IsOutput answer x told refused text) (sym w.3) (λ script_text rules_text plan_text capture_text at at_rules at_plan at_capture. record {
  script = s;
  rules = record { schema = file.chains.schema; chains = file.chains.chains; accept = file.chains.accept };
  packets = planned_packets plan frames;
  lines = h.0.lines;
  script_is = (w.4 script_text at).1;
  rules_are = record { over = h.0.over; is_text = (w.5.read rules_text at_rules).1 };
  captured = record { plan = plan; frames = frames; is_plan = (w.6 plan_text at_plan).1; is_capture = (w.7 capture_text at_capture).1; made = refl };
  legal = h.0.legal;
  text = h.0.text_is;
  refusal = h.1;
})
is-output answer told c (works.Desk s g) refused text w h = subst (λ (x : Command). IsOutput answer x told refused text) (sym w.1) (λ script_text at. record { script = s; script_is = (w.2 script_text at).1; few = h.1; is_desk = h.0 })
is-output answer told c (works.Get s key moment g) refused text w h = subst (λ (x : Command). IsOutput answer x told refused text) (sym w.1) (λ script_text at. record { script = s; script_is = (w.2 script_text at).1; gives = h })
is-output answer told c (works.Explain s packets g) refused text w h = subst (λ (x : Command). IsOutput answer x told refused text) (sym w.2) (λ script_text keys_text at at_keys. record { script = s; keys = packets; script_is = (w.3 script_text at).1; keys_are = (w.4 keys_text at_keys).1; gives = h })
is-output answer told c (works.Compare a s b t g) refused text w h = subst (λ (x : Command). IsOutput answer x told refused text) (sym w.0) (λ first_text second_text at at_second. record { script = s; other = t; script_is = (w.1 first_text at).1; other_is = (w.2 second_text at_second).1; gives = h })
is-output answer told c (works.Sets f whole sieved) refused text w h = subst (λ (x : Command). IsOutput answer x told refused text) (sym w.0) (λ bytes at. sets-in bytes sieved.text.items text sieved.skips refused (w.1 bytes at).1.1 h.0 h.1)
is-output answer told c (works.Drill seed count n) refused text w h = subst (λ (x : Command). IsOutput answer x told refused text) (sym w) (h.1, h.0)

-- The refused changes that a work's output has as data are the command's.
pub are-refused : (told : List ℕ → Option (List ℕ)) (c : Command) (w : Work) (out : Output) → IsWork told c w → GivesRefusals w out → AreRefused c told out.refused out.text.items out.refusals.items out.failed
are-refused told c (works.Run s packets n g) out w h = subst (λ (x : Command). AreRefused x told out.refused out.text.items out.refusals.items out.failed) (sym w.2) (λ text at. (s, (w.3 text at).1, h.0.refusals_are, h.1))
are-refused told c (works.List s g) out w h = subst (λ (x : Command). AreRefused x told out.refused out.text.items out.refusals.items out.failed) (sym w.1) (λ text at. (s, (w.2 text at).1, h.0.refusals_are, h.1))
are-refused told c (works.Dump s g) out w h = subst (λ (x : Command). AreRefused x told out.refused out.text.items out.refusals.items out.failed) (sym w.1) (λ text at. (s, (w.2 text at).1, h.0.refusals_are, h.1))
are-refused told c (works.Stat s g) out w h = subst (λ (x : Command). AreRefused x told out.refused out.text.items out.refusals.items out.failed) (sym w.1) (λ text at. (s, (w.2 text at).1, h.0.refusals_are, h.1))
are-refused told c (works.Capture s plan frames n g) out w h = subst (λ (x : Command). AreRefused x told out.refused out.text.items out.refusals.items out.failed) (sym w.3) (λ text at. (s, (w.4 text at).1, h.0.refusals_are, h.1))
are-refused told c (works.Judge s file packets n g) out w h = subst (λ (x : Command). AreRefused x told out.refused out.text.items out.refusals.items out.failed) (sym w.2) (λ text at. (s, (w.3 text at).1, h.0.refusals_are, h.1))
are-refused told c (works.JudgeCapture s file plan frames n g) out w h = subst (λ (x : Command). AreRefused x told out.refused out.text.items out.refusals.items out.failed) (sym w.3) (λ text at. (s, (w.4 text at).1, h.0.refusals_are, h.1))
are-refused told c (works.Desk s g) out w h = subst (λ (x : Command). AreRefused x told out.refused out.text.items out.refusals.items out.failed) (sym w.1) (λ text at. (s, (w.2 text at).1, h.desk, h.refusals_are, h.failed_is))
are-refused told c (works.Get s key moment g) out w h = subst (λ (x : Command). AreRefused x told out.refused out.text.items out.refusals.items out.failed) (sym w.1) (λ text at. (s, (w.2 text at).1, h.0.refusals_are, h.1))
are-refused told c (works.Explain s packets g) out w h = subst (λ (x : Command). AreRefused x told out.refused out.text.items out.refusals.items out.failed) (sym w.2) (λ text at. (s, (w.3 text at).1, h.0.refusals_are, h.1))
are-refused told c (works.Compare a s b t g) out w h = subst (λ (x : Command). AreRefused x told out.refused out.text.items out.refusals.items out.failed) (sym w.0) h
are-refused told c (works.Sets f whole sieved) out w h = subst (λ (x : Command). AreRefused x told out.refused out.text.items out.refusals.items out.failed) (sym w.0) h
are-refused told c (works.Drill seed count n) out w h = subst (λ (x : Command). AreRefused x told out.refused out.text.items out.refusals.items out.failed) (sym w) tt
