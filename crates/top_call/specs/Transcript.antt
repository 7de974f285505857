-- What a command writes: the transcript of a run, the listing of a script, the tables of a script, a drill's summary.
use Rattle.std.specs.Borrow.{Bor}
use Rattle.std.specs.List.{list_any}
use Rattle.std.specs.Prelude.{◌≡◌, ◌≤◌, ◌<◌, ℕ, Bool, false, List, [], ◌∷◌, Option, Some, length, map}
use Rattle.std.specs.String.{string_bytes}
use Rattle.token_forms.specs.declared.token.Reason.{Reason}
use Rattle.key_answer.specs.Answer.{GivesAnswer}
use Rattle.compare_answer.specs.Compared.{GivesComparison}
use Rattle.explain_answer.specs.Explained.{Explains}
use Rattle.key_answer.specs.Question.{IsBadKey}
use Rattle.set_model.specs.declared.script.Script.{Script}
use Rattle.set_model.specs.declared.packet.Packet.{Packet}
use Rattle.set_model.specs.declared.report.Line.{Line}
use Rattle.set_model.specs.Control.{Mode, mode_of, has_refusal}
use Rattle.set_model.specs.Legal.{AreLegal, Legal}
use Rattle.set_model.specs.Text.{run_text}
use Rattle.rule_chain.specs.Chains.{Rules}
use Rattle.rule_chain.specs.Judged.{IsJudged}
use Rattle.rule_chain.specs.JudgedText.{judged_text}
use Rattle.rule_chain.specs.RulesText.{IsRulesText}
use Rattle.set_script.specs.ScriptText.{IsScriptText}
use Rattle.ruleset_sets.specs.Kept.{IsKept, all_taken, notes}
use Rattle.ruleset_sets.specs.RulesetText.{leaves_out}
use Rattle.key_file.specs.KeysText.{IsKeysText}
use Rattle.pcap_keys.specs.Planned.{packets as planned_packets}
use Rattle.pcap_keys.specs.CapturedPackets.{AreCaptured}
use Rattle.script_run.specs.Listings.{tables_text}
use Rattle.stat_answer.specs.StatText.{stat_text}
use Rattle.script_run.specs.Drill.{drill_text}
use Rattle.desk_run.specs.DeskText.{IsDeskText}
use Rattle.command_words.specs.declared.form.AnswerForm.{AnswerForm}
use Rattle.command_words.specs.Words.{Command, run, list, dump, drill, judge, capture, desk, get, explain, compare, stat, judge_capture, sets_of}
use Rattle.input_files.specs.declared.work.Work.{Work}
use Rattle.input_files.specs.declared.work.Work.TheVariants as works
use Rattle.top_call.specs.Texts.{listing_output, run_output}

-- A text is read as these rules over the sets of a script.
pub record AreRulesOf (script : Script) (text : List ℕ) (rules : Rules) : Type 0 where
  pub over : rules.schema ≡ script.schema
  pub is_text : IsRulesText script.schema text (rules.chains, rules.accept)

-- The output is the text, in the form of this answer, of a legal transcript, with so many threads, of the script and the key file
-- in these texts.
-- It reports a refusal exactly if a change of the script is refused.
pub record IsTranscript (answer : AnswerForm) (script_text keys_text : List ℕ) (threads : ℕ) (mode : Mode) (refused : Bool) (output : List ℕ) : Type 0 where
  pub script : Script
  pub keys : List (List Packet)
  pub lines : List Line
  pub script_is : IsScriptText script_text script
  pub keys_are : IsKeysText script.schema keys_text keys
  pub legal : Legal script keys threads mode lines
  pub text : output ≡ run_output answer mode script keys lines
  pub refusal : refused ≡ has_refusal mode script

-- The same of a capture: the packets that a plan makes of its frames are those of one key section.
pub record IsCaptured (answer : AnswerForm) (script_text plan_text capture_text : List ℕ) (threads : ℕ) (mode : Mode) (refused : Bool) (output : List ℕ) : Type 0 where
  pub script : Script
  pub packets : List Packet
  pub lines : List Line
  pub script_is : IsScriptText script_text script
  pub captured : AreCaptured script.schema plan_text capture_text packets
  pub legal : Legal script (packets ∷ []) threads mode lines
  pub text : output ≡ run_output answer mode script (packets ∷ []) lines
  pub refusal : refused ≡ has_refusal mode script

-- The same of a rules file: its chains decide on each packet by the sets of one generation. A decision takes the
-- place of a lookup.
pub record IsJudgement (script_text rules_text keys_text : List ℕ) (threads : ℕ) (mode : Mode) (refused : Bool) (output : List ℕ) : Type 0 where
  pub script : Script
  pub rules : Rules
  pub keys : List (List Packet)
  pub lines : List Line
  pub script_is : IsScriptText script_text script
  pub rules_are : AreRulesOf script rules_text rules
  pub keys_are : IsKeysText script.schema keys_text keys
  pub legal : AreLegal (IsJudged rules) script keys threads mode lines
  pub text : output ≡ run_text (judged_text rules) mode script keys lines
  pub refusal : refused ≡ has_refusal mode script

-- The same of the packets that a plan makes of a capture's frames.
pub record IsJudgedCapture (script_text rules_text plan_text capture_text : List ℕ) (threads : ℕ) (mode : Mode) (refused : Bool) (output : List ℕ) : Type 0 where
  pub script : Script
  pub rules : Rules
  pub packets : List Packet
  pub lines : List Line
  pub script_is : IsScriptText script_text script
  pub rules_are : AreRulesOf script rules_text rules
  pub captured : AreCaptured script.schema plan_text capture_text packets
  pub legal : AreLegal (IsJudged rules) script (packets ∷ []) threads mode lines
  pub text : output ≡ run_text (judged_text rules) mode script (packets ∷ []) lines
  pub refusal : refused ≡ has_refusal mode script

-- The output is this text of the script that was read. It reports a refusal exactly if a change of the script is
-- refused.
pub record IsTextOf (text : Mode → Script → List ℕ) (script_text : List ℕ) (mode : Mode) (refused : Bool) (output : List ℕ) : Type 0 where
  pub script : Script
  pub script_is : IsScriptText script_text script
  pub text_is : output ≡ text mode script
  pub refusal : refused ≡ has_refusal mode script

-- the listing of the last generation, and its tables
abbrev pub IsListing : AnswerForm → List ℕ → Mode → Bool → List ℕ → Type 0
IsListing answer = IsTextOf (listing_output answer)

abbrev pub IsTables : List ℕ → Mode → Bool → List ℕ → Type 0
IsTables = IsTextOf tables_text

-- the figures of the last generation
abbrev pub IsStat : List ℕ → Mode → Bool → List ℕ → Type 0
IsStat = IsTextOf stat_text

-- the most sections of a desk's script: the first, and one for each of sixteen control threads
abbrev pub most_sections : ℕ
most_sections = 17

-- The output is the text of a desk, of the script that was read: its first section alone, and then a log that is
-- woven of the others.
pub record IsWovenOf (script_text : List ℕ) (keep_going : Bool) (refused : Bool) (output : List ℕ) : Type 0 where
  pub script : Script
  pub script_is : IsScriptText script_text script
  pub few : length script.sections ≤ most_sections
  pub is_desk : IsDeskText script keep_going refused output

-- The output answers these words of a key in the script that was read.
pub record IsAnswerOf (script_text : List ℕ) (key : List (List ℕ)) (moment : Option ℕ) (mode : Mode) (refused : Bool) (output : List ℕ) : Type 0 where
  pub script : Script
  pub script_is : IsScriptText script_text script
  pub gives : GivesAnswer mode script key moment refused output

-- The output explains the answers to the packets of the key file in this text, in the script that was read.
pub record IsExplanationOf (script_text keys_text : List ℕ) (mode : Mode) (refused : Bool) (output : List ℕ) : Type 0 where
  pub script : Script
  pub keys : List (List Packet)
  pub script_is : IsScriptText script_text script
  pub keys_are : IsKeysText script.schema keys_text keys
  pub gives : Explains mode script keys refused output

-- The output compares the scripts in these texts, which name their files so.
pub record IsComparisonOf (first first_text second second_text : List ℕ) (mode : Mode) (refused : Bool) (output : List ℕ) : Type 0 where
  pub script : Script
  pub other : Script
  pub script_is : IsScriptText first_text script
  pub other_is : IsScriptText second_text other
  pub gives : GivesComparison mode first script second other refused output

-- A set of the ruleset with this text, or a statement on one, is left out.
abbrev pub leaves_any : List ℕ → Bool
leaves_any text = list_any (λ s. leaves_out s.why) (notes text)

-- The output is what is kept of the ruleset with this text, and it is a script. It reports a refusal exactly if a set
-- is left out.
pub record AreSetsIn (text : List ℕ) (refused : Bool) (output : List ℕ) : Type 0 where
  pub script : Script
  pub is_kept : IsKept text (all_taken text) output
  pub is_script : IsScriptText output script
  pub refusal : refused ≡ leaves_any text

-- What a command writes in the form of an answer, by the bytes under its files' names, and whether its text reports a refusal.
abbrev pub IsOutput : AnswerForm → Command → (List ℕ → Option (List ℕ)) → Bool → List ℕ → Type 0
IsOutput answer (run script keys threads keep_going) told refused output = (script_text keys_text : List ℕ) → told script ≡ Some script_text → told keys ≡ Some keys_text → IsTranscript answer script_text keys_text threads (mode_of keep_going) refused output
IsOutput answer (list script keep_going) told refused output = (script_text : List ℕ) → told script ≡ Some script_text → IsListing answer script_text (mode_of keep_going) refused output
IsOutput answer (dump script keep_going) told refused output = (script_text : List ℕ) → told script ≡ Some script_text → IsTables script_text (mode_of keep_going) refused output
IsOutput answer (stat script keep_going) told refused output = (script_text : List ℕ) → told script ≡ Some script_text → IsStat script_text (mode_of keep_going) refused output
IsOutput answer (drill seed count threads) told refused output = (refused ≡ false) × (output ≡ drill_text seed count)
IsOutput answer (judge script rules keys threads keep_going) told refused output =
    (script_text rules_text keys_text : List ℕ) → told script ≡ Some script_text → told rules ≡ Some rules_text → told keys ≡ Some keys_text
    → IsJudgement script_text rules_text keys_text threads (mode_of keep_going) refused output
IsOutput answer (judge_capture script rules plan packets threads keep_going) told refused output =
    (script_text rules_text plan_text capture_text : List ℕ) → told script ≡ Some script_text → told rules ≡ Some rules_text → told plan ≡ Some plan_text → told packets ≡ Some capture_text
    → IsJudgedCapture script_text rules_text plan_text capture_text threads (mode_of keep_going) refused output
IsOutput answer (capture script plan packets threads keep_going) told refused output =
    (script_text plan_text capture_text : List ℕ) → told script ≡ Some script_text → told plan ≡ Some plan_text → told packets ≡ Some capture_text
    → IsCaptured answer script_text plan_text capture_text threads (mode_of keep_going) refused output
IsOutput answer (desk script keep_going) told refused output = (script_text : List ℕ) → told script ≡ Some script_text → IsWovenOf script_text keep_going refused output
IsOutput answer (get script key moment keep_going) told refused output = (script_text : List ℕ) → told script ≡ Some script_text → IsAnswerOf script_text key moment (mode_of keep_going) refused output
IsOutput answer (explain script keys keep_going) told refused output = (script_text keys_text : List ℕ) → told script ≡ Some script_text → told keys ≡ Some keys_text → IsExplanationOf script_text keys_text (mode_of keep_going) refused output
IsOutput answer (sets_of file) told refused output = (text : List ℕ) → told file ≡ Some text → AreSetsIn text refused output
IsOutput answer (compare first second keep_going) told refused output = (first_text second_text : List ℕ) → told first ≡ Some first_text → told second ≡ Some second_text → IsComparisonOf first first_text second second_text (mode_of keep_going) refused output

-- The lines are legal ones of a script and its packets, and the text is the text of their transcript in the form of this answer.
pub record HasTranscript (answer : AnswerForm) (s : Script) (packets : List (List Packet)) (threads : ℕ) (mode : Mode) (text : List ℕ) : Type 0 where
  pub lines : List Line
  pub legal : Legal s packets threads mode lines
  pub text_is : text ≡ run_output answer mode s packets lines

-- The same if chains judge the packets.
pub record HasJudgement (s : Script) (rules : Rules) (packets : List (List Packet)) (threads : ℕ) (mode : Mode) (text : List ℕ) : Type 0 where
  pub lines : List Line
  pub over : rules.schema ≡ s.schema
  pub legal : AreLegal (IsJudged rules) s packets threads mode lines
  pub text_is : text ≡ run_text (judged_text rules) mode s packets lines

-- A desk has a control thread for each section but the first.
abbrev pub HasFewClerks : Work → Type 0
HasFewClerks (works.Run s packets threads keep_going) = Unit {0}
HasFewClerks (works.List s keep_going) = Unit {0}
HasFewClerks (works.Dump s keep_going) = Unit {0}
HasFewClerks (works.Stat s keep_going) = Unit {0}
HasFewClerks (works.Drill seed count threads) = Unit {0}
HasFewClerks (works.Judge s file packets threads keep_going) = Unit {0}
HasFewClerks (works.Capture s plan frames threads keep_going) = Unit {0}
HasFewClerks (works.JudgeCapture s file plan frames threads keep_going) = Unit {0}
HasFewClerks (works.Desk s keep_going) = length s.sections ≤ most_sections
HasFewClerks (works.Get s key moment keep_going) = Unit {0}
HasFewClerks (works.Explain s packets keep_going) = Unit {0}
HasFewClerks (works.Compare a s b t keep_going) = Unit {0}
HasFewClerks (works.Sets f whole sieved) = Unit {0}

-- A command's work is a desk with more sections than there may be, of the script of this name.
pub record IsOverfull (c : Command) (work : Work) (name : Bor (List ℕ)) : Type 0 where
  pub script : Script
  pub keep_going : Bool
  pub is_work : work ≡ works.Desk script keep_going
  pub is_name : c ≡ desk name.now keep_going
  pub many : most_sections < length script.sections

-- The text of a command's work in the form of an answer, and whether it reports a refusal.
abbrev pub GivesText : AnswerForm → Work → Bool → List ℕ → Type 0
GivesText answer (works.Run s packets threads keep_going) refused text = HasTranscript answer s packets threads (mode_of keep_going) text × (refused ≡ has_refusal (mode_of keep_going) s)
GivesText answer (works.List s keep_going) refused text = (text ≡ listing_output answer (mode_of keep_going) s) × (refused ≡ has_refusal (mode_of keep_going) s)
GivesText answer (works.Dump s keep_going) refused text = (text ≡ tables_text (mode_of keep_going) s) × (refused ≡ has_refusal (mode_of keep_going) s)
GivesText answer (works.Stat s keep_going) refused text = (text ≡ stat_text (mode_of keep_going) s) × (refused ≡ has_refusal (mode_of keep_going) s)
GivesText answer (works.Drill seed count threads) refused text = (text ≡ drill_text seed count) × (refused ≡ false)
GivesText answer (works.Capture s plan frames threads keep_going) refused text =
    HasTranscript answer s (planned_packets plan frames ∷ []) threads (mode_of keep_going) text × (refused ≡ has_refusal (mode_of keep_going) s)
GivesText answer (works.Judge s file packets threads keep_going) refused text = HasJudgement s file.chains packets threads (mode_of keep_going) text × (refused ≡ has_refusal (mode_of keep_going) s)
GivesText answer (works.JudgeCapture s file plan frames threads keep_going) refused text =
    HasJudgement s file.chains (planned_packets plan frames ∷ []) threads (mode_of keep_going) text × (refused ≡ has_refusal (mode_of keep_going) s)
GivesText answer (works.Desk s keep_going) refused text = IsDeskText s keep_going refused text × (length s.sections ≤ most_sections)
GivesText answer (works.Get s key moment keep_going) refused text = GivesAnswer (mode_of keep_going) s (map string_bytes key.now) moment refused text
GivesText answer (works.Explain s packets keep_going) refused text = Explains (mode_of keep_going) s packets refused text
GivesText answer (works.Sets f whole sieved) refused text = (text ≡ sieved.text.items) × (refused ≡ list_any (λ s. leaves_out s.why) sieved.skips)
GivesText answer (works.Compare a s b t keep_going) refused text = GivesComparison (mode_of keep_going) a.now s b.now t refused text

-- A command's work is a `get` whose words are no key.
abbrev pub HasBadWords : Work → ℕ → Reason → Type 0
HasBadWords (works.Run s packets threads keep_going) line reason = ⊥
HasBadWords (works.List s keep_going) line reason = ⊥
HasBadWords (works.Dump s keep_going) line reason = ⊥
HasBadWords (works.Stat s keep_going) line reason = ⊥
HasBadWords (works.Drill seed count threads) line reason = ⊥
HasBadWords (works.Judge s file packets threads keep_going) line reason = ⊥
HasBadWords (works.Capture s plan frames threads keep_going) line reason = ⊥
HasBadWords (works.JudgeCapture s file plan frames threads keep_going) line reason = ⊥
HasBadWords (works.Desk s keep_going) line reason = ⊥
HasBadWords (works.Get s key moment keep_going) line reason = IsBadKey s.schema (map string_bytes key.now) line reason
HasBadWords (works.Explain s packets keep_going) line reason = ⊥
HasBadWords (works.Compare a s b t keep_going) line reason = ⊥
HasBadWords (works.Sets f whole sieved) line reason = ⊥

-- A work makes an output: all but that of a ruleset.
abbrev pub MakesOutput : Work → Type 0
MakesOutput (works.Run s packets threads keep_going) = Unit {0}
MakesOutput (works.List s keep_going) = Unit {0}
MakesOutput (works.Dump s keep_going) = Unit {0}
MakesOutput (works.Stat s keep_going) = Unit {0}
MakesOutput (works.Drill seed count threads) = Unit {0}
MakesOutput (works.Judge s file packets threads keep_going) = Unit {0}
MakesOutput (works.JudgeCapture s file plan frames threads keep_going) = Unit {0}
MakesOutput (works.Capture s plan frames threads keep_going) = Unit {0}
MakesOutput (works.Desk s keep_going) = Unit {0}
MakesOutput (works.Get s key moment keep_going) = Unit {0}
MakesOutput (works.Explain s packets keep_going) = Unit {0}
MakesOutput (works.Compare a s b t keep_going) = Unit {0}
MakesOutput (works.Sets f whole sieved) = ⊥
