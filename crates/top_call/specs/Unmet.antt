-- The lines on the tests of rules that no packet can meet.
use Rattle.std.specs.Prelude.{◌≡◌, ◌≢◌, ◌⊎◌, ℕ, List, [], All, Bool, Option, Some}
use Rattle.set_model.specs.declared.packet.Packet.{Packet}
use Rattle.set_model.specs.declared.script.Script.{Script}
use Rattle.set_model.specs.declared.script.SetDecl.{SetDecl}
use Rattle.set_script.specs.ScriptText.{IsScriptText}
use Rattle.key_file.specs.KeysText.{IsKeysText}
use Rattle.pcap_keys.specs.declared.selector.PlanLine.{PlanLine}
use Rattle.pcap_keys.specs.PlansText.{IsPlanText}
use Rattle.rule_chain.specs.declared.chains.Chain.{Chain}
use Rattle.rule_chain.specs.RulesText.{IsRulesText}
use Rattle.rule_chain.specs.Unmet.{sets_of}
use Rattle.unmet_tests.specs.UnmetText.{plan_sets, unmet_text}
use Rattle.pip_base.specs.Notes.{Tells}
use Rattle.token_notes.specs.Shown.{IsNoteByte}
use Rattle.command_words.specs.Words.{Command, IsCommand, run, list, dump, drill, judge, capture, desk, get, explain, compare, stat, judge_capture, sets_of as sets_command}
use Rattle.input_files.specs.declared.work.Work.{Work}
use Rattle.input_files.specs.declared.work.Work.TheVariants as works

-- Packets have keys for these sets, by the text of a key file or of a plan.
abbrev pub AreKeySets : List ℕ → List SetDecl → List ℕ → Type 0
AreKeySets keys_text schema sets = (keys : List (List Packet)) × IsKeysText schema keys_text keys × (sets ≡ sets_of keys)

abbrev pub ArePlanSets : List ℕ → List SetDecl → List ℕ → Type 0
ArePlanSets plan_text schema sets = (plan : List PlanLine) × IsPlanText schema plan_text plan × (sets ≡ plan_sets plan)

-- The lines on the tests of a rules file that no packet can meet: by the sets of a script, and by those of them for which packets
-- have keys.
pub record AreUnmetIn (name script_text rules_text : List ℕ) (AreKeyed : List SetDecl → List ℕ → Type 0) (lines : List ℕ) : Type 0 where
  pub script : Script
  pub chains : List Chain × Bool
  pub sets : List ℕ
  pub script_is : IsScriptText script_text script
  pub rules_are : IsRulesText script.schema rules_text chains
  pub keyed : AreKeyed script.schema sets
  pub lines_are : lines ≡ unmet_text name rules_text script.schema sets chains.0

-- The lines on those tests of a command's rules, if the bytes of its files are known. There are none if no rules judge packets.
abbrev pub AreUnmet : Command → (List ℕ → Option (List ℕ)) → List ℕ → Type 0
AreUnmet (judge s r k threads keep_going) told lines = (script_text rules_text keys_text : List ℕ) → told s ≡ Some script_text → told r ≡ Some rules_text → told k ≡ Some keys_text → AreUnmetIn r script_text rules_text (AreKeySets keys_text) lines
AreUnmet (judge_capture s r p f threads keep_going) told lines = (script_text rules_text plan_text : List ℕ) → told s ≡ Some script_text → told r ≡ Some rules_text → told p ≡ Some plan_text → AreUnmetIn r script_text rules_text (ArePlanSets plan_text) lines
AreUnmet (run s k threads keep_going) told lines = lines ≡ []
AreUnmet (list s keep_going) told lines = lines ≡ []
AreUnmet (dump s keep_going) told lines = lines ≡ []
AreUnmet (stat s keep_going) told lines = lines ≡ []
AreUnmet (drill seed count threads) told lines = lines ≡ []
AreUnmet (capture s p f threads keep_going) told lines = lines ≡ []
AreUnmet (desk s keep_going) told lines = lines ≡ []
AreUnmet (get s key moment keep_going) told lines = lines ≡ []
AreUnmet (explain s k keep_going) told lines = lines ≡ []
AreUnmet (compare a b keep_going) told lines = lines ≡ []
AreUnmet (sets_command f) told lines = lines ≡ []

-- Lines were written, if there are any. They move no terminal.
pub record SaysLines (lines : List ℕ) (before now : Option (List ℕ)) : Type 0 where
  pub quiet : All IsNoteByte lines
  pub none : lines ≡ [] → now ≡ before
  pub some : lines ≢ [] → Tells before now lines

-- All lines on those tests of a command's rules were written, if there are any.
pub record TellsUnmet (told : List ℕ → Option (List ℕ)) (c : Command) (before now : Option (List ℕ)) : Type 0 where
  pub lines : List ℕ
  pub are : AreUnmet c told lines
  pub says : SaysLines lines before now

-- Nothing was written on tests, or all lines on those of the words' command.
abbrev pub SaysUnmet : List (List ℕ) → (List ℕ → Option (List ℕ)) → Option (List ℕ) → Option (List ℕ) → Type 0
SaysUnmet words told before now = (now ≡ before) ⊎ ((c : Command) × IsCommand words c × TellsUnmet told c before now)

-- the lines on those tests of a work's rules
abbrev pub unmet_of : Work → List ℕ
unmet_of (works.Judge s file keys threads keep_going) = unmet_text file.name.now file.text.items file.chains.schema (sets_of keys) file.chains.chains
unmet_of (works.JudgeCapture s file plan frames threads keep_going) = unmet_text file.name.now file.text.items file.chains.schema (plan_sets plan) file.chains.chains
unmet_of (works.Run s keys threads keep_going) = []
unmet_of (works.List s keep_going) = []
unmet_of (works.Dump s keep_going) = []
unmet_of (works.Stat s keep_going) = []
unmet_of (works.Drill seed count threads) = []
unmet_of (works.Capture s plan frames threads keep_going) = []
unmet_of (works.Desk s keep_going) = []
unmet_of (works.Get s key moment keep_going) = []
unmet_of (works.Explain s keys keep_going) = []
unmet_of (works.Compare a s b t keep_going) = []
unmet_of (works.Sets f whole sieved) = []
