-- The files of a command and their forms. What a definition says of a file's bytes holds if they are
-- known.
use Rattle.std.specs.Prelude.{◌≡◌, ◌≤◌, ◌<◌, ℕ, Bool, List, [], ◌∷◌, ◌++◌, map, length, Option, Some}
use Rattle.set_model.specs.declared.script.Script.{Script}
use Rattle.set_model.specs.declared.script.SetDecl.{SetDecl}
use Rattle.set_model.specs.declared.packet.Packet.{Packet}
use Rattle.token_forms.specs.TextTokens.{text_tokens}
use Rattle.token_forms.specs.Faults.{IsFault}
use Rattle.set_script.specs.Script.{script as script_form}
use Rattle.set_script.specs.ScriptText.{IsScriptText}
use Rattle.ruleset_sets.specs.RulesetText.{IsRulesetText, IsBadRuleset}
use Rattle.key_file.specs.Keys.{key_file}
use Rattle.key_file.specs.KeysText.{IsKeysText}
use Rattle.rule_chain.specs.declared.chains.Chain.{Chain}
use Rattle.rule_chain.specs.RulesText.{IsRulesText, IsBadRules}
use Rattle.pcap_keys.specs.declared.facts.Frame.{Frame}
use Rattle.pcap_keys.specs.declared.selector.PlanLine.{PlanLine}
use Rattle.pcap_keys.specs.CapturedPackets.{IsCapture, IsBadCapture}
use Rattle.pcap_keys.specs.PlansText.{IsPlanText, IsBadPlan}
use Rattle.pip_base.specs.Causes.{Rose}
use Rattle.pip_base.specs.Picks.{AsksOnce}
use Rattle.pip_base.specs.Whole.{size_limit}
use Rattle.command_words.specs.Words.{Command, run, list, dump, drill, judge, capture as capture_command, desk, get, explain, compare, stat, judge_capture, sets_of}
use Rattle.input_files.specs.declared.fault.Flaw.{Flaw}
use Rattle.input_files.specs.declared.fault.Flaw.TheVariants as flaws
use Rattle.input_files.specs.declared.fault.FileFault.{FileFault}
use Rattle.input_files.specs.declared.fault.FileFault.TheVariants.{Bad, ReadFault, TooLarge, Memory}

-- the form of a file
pub data FileForm : Type 0 where
  script : FileForm
  second : FileForm
  rules_of_nft : FileForm
  keys : FileForm
  rules : FileForm
  plan : FileForm
  capture : FileForm

-- a file of a command: its name and its form
pub record Input : Type 0 where
  pub name : List ℕ
  pub form : FileForm

abbrev pub names_of : List Input → List (List ℕ)
names_of inputs = map (λ i. i.name) inputs

-- the files of a command, in the order of its words
abbrev pub inputs : Command → List Input
inputs (run s k threads keep_going) = record { name = s; form = script } ∷ record { name = k; form = keys } ∷ []
inputs (list s keep_going) = record { name = s; form = script } ∷ []
inputs (dump s keep_going) = record { name = s; form = script } ∷ []
inputs (stat s keep_going) = record { name = s; form = script } ∷ []
inputs (drill seed count threads) = []
inputs (judge s r k threads keep_going) = record { name = s; form = script } ∷ record { name = r; form = rules } ∷ record { name = k; form = keys } ∷ []
inputs (judge_capture s r p c threads keep_going) = record { name = s; form = script } ∷ record { name = r; form = rules } ∷ record { name = p; form = plan } ∷ record { name = c; form = capture } ∷ []
inputs (capture_command s p c threads keep_going) = record { name = s; form = script } ∷ record { name = p; form = plan } ∷ record { name = c; form = capture } ∷ []
inputs (desk s keep_going) = record { name = s; form = script } ∷ []
inputs (get s key moment keep_going) = record { name = s; form = script } ∷ []
inputs (explain s k keep_going) = record { name = s; form = script } ∷ record { name = k; form = keys } ∷ []
inputs (sets_of f) = record { name = f; form = rules_of_nft } ∷ []
inputs (compare a b keep_going) = record { name = a; form = script } ∷ record { name = b; form = second } ∷ []

-- A text is of a form, for a script that declares these sets: it is that script; or a key file, a rules
-- file or a plan for these sets; or a second script, a ruleset or a capture, which don't depend on the sets.
abbrev pub IsOf : FileForm → List SetDecl → List ℕ → Type 0
IsOf script sets text = (s : Script) × IsScriptText text s × (s.schema ≡ sets)
IsOf second sets text = (s : Script) × IsScriptText text s
IsOf rules_of_nft sets text = (s : Script) × IsRulesetText text s
IsOf keys sets text = (packets : List (List Packet)) × IsKeysText sets text packets
IsOf rules sets text = (chains : List Chain × Bool) × IsRulesText sets text chains
IsOf plan sets text = (lines : List PlanLine) × IsPlanText sets text lines
IsOf capture sets text = (frames : List Frame) × IsCapture text frames

-- the form to which a flaw belongs
abbrev pub form_of : Flaw → FileForm
form_of (flaws.Script line reason) = script
form_of (flaws.SecondScript line reason) = second
form_of (flaws.Ruleset line reason) = rules_of_nft
form_of (flaws.Keys line reason) = keys
form_of (flaws.Rules line reason) = rules
form_of (flaws.Plan line reason) = plan
form_of (flaws.Capture byte reason) = capture

-- This is wrong with a text, for a script that declares these sets: its bad token is in this line and
-- has this reason; or its first fault as a capture is this one.
abbrev pub IsFlawed : List SetDecl → List ℕ → Flaw → Type 0
IsFlawed sets text (flaws.Script line reason) = IsFault script_form (text_tokens text) line reason
IsFlawed sets text (flaws.SecondScript line reason) = IsFault script_form (text_tokens text) line reason
IsFlawed sets text (flaws.Ruleset line reason) = IsBadRuleset text line reason
IsFlawed sets text (flaws.Keys line reason) = IsFault (key_file sets) (text_tokens text) line reason
IsFlawed sets text (flaws.Rules line reason) = IsBadRules sets text line reason
IsFlawed sets text (flaws.Plan line reason) = IsBadPlan sets text line reason
IsFlawed sets text (flaws.Capture byte reason) = IsBadCapture text byte reason

-- If the bytes of the file with this name are known, they are within its size, and this holds of them.
abbrev pub ReadsAs : (List ℕ → Option (List ℕ)) → List ℕ → (List ℕ → Type 0) → Type 0
ReadsAs told name Holds = (text : List ℕ) → told name ≡ Some text → (length text ≤ size_limit) × Holds text

-- If the bytes of the file with this name are known, there are more of them than it may have.
abbrev pub IsTooLarge : (List ℕ → Option (List ℕ)) → List ℕ → Type 0
IsTooLarge told name = (text : List ℕ) → told name ≡ Some text → size_limit < length text

-- Why a file failed, whose name was asked for after others: its bytes are flawed, or too many; or the
-- shelf's count of faults rose; or memory ran out. Without a fault the count stays.
abbrev pub IsFileCause : (List ℕ → Option (List ℕ)) → List SetDecl → List (List ℕ) → Input → List (List ℕ) → ℕ → ℕ → FileFault → Type 0
IsFileCause told sets others i asked before now (Bad flaw) = (asked ≡ others ++ i.name ∷ []) × (now ≡ before) × (form_of flaw ≡ i.form) × ReadsAs told i.name (λ text. IsFlawed sets text flaw)
IsFileCause told sets others i asked before now (ReadFault name) = (asked ≡ others ++ i.name ∷ []) × (name.now ≡ i.name) × Rose before now
IsFileCause told sets others i asked before now (TooLarge name) = (asked ≡ others ++ i.name ∷ []) × (name.now ≡ i.name) × (now ≡ before) × IsTooLarge told i.name
IsFileCause told sets others i asked before now Memory = AsksOnce others asked i.name × (now ≡ before)

-- The same fault of a command's second script.
abbrev pub as_second : FileFault → FileFault
as_second (Bad (flaws.Script line reason)) = Bad (flaws.SecondScript line reason)
as_second (Bad (flaws.SecondScript line reason)) = Bad (flaws.SecondScript line reason)
as_second (Bad (flaws.Ruleset line reason)) = Bad (flaws.Ruleset line reason)
as_second (Bad (flaws.Keys line reason)) = Bad (flaws.Keys line reason)
as_second (Bad (flaws.Rules line reason)) = Bad (flaws.Rules line reason)
as_second (Bad (flaws.Plan line reason)) = Bad (flaws.Plan line reason)
as_second (Bad (flaws.Capture byte reason)) = Bad (flaws.Capture byte reason)
as_second (ReadFault name) = ReadFault name
as_second (TooLarge name) = TooLarge name
as_second Memory = Memory
