-- The status of a call in which nothing failed outside, and what it wrote, by the words and the bytes that the shelf
-- shows.
use Rattle.std.specs.Prelude.{Bool, ◌≡◌, ◌≤◌, ◌<◌, ◌⊎◌, ℕ, List, [], ◌∷◌, ◌++◌, length, Option, Some}
use Rattle.std.specs.Io.KnownBytes.{Appends, Keeps}
use Rattle.set_model.specs.declared.script.Script.{Script}
use Rattle.set_model.specs.declared.script.SetDecl.{SetDecl}
use Rattle.set_model.specs.declared.packet.Packet.{Packet}
use Rattle.set_model.specs.declared.report.Line.{Line}
use Rattle.set_model.specs.Control.{Mode, mode_of, has_refusal}
use Rattle.set_model.specs.Legal.{AreLegal, Legal}
use Rattle.set_model.specs.Text.{run_text}
use Rattle.rule_chain.specs.Chains.{Rules}
use Rattle.rule_chain.specs.Judged.{IsJudged}
use Rattle.rule_chain.specs.JudgedText.{judged_text}
use Rattle.set_script.specs.ScriptText.{IsScriptText}
use Rattle.ruleset_sets.specs.Kept.{IsKept, all_taken}
use Rattle.ruleset_sets.specs.RulesetText.{IsRulesetText}
use Rattle.key_file.specs.KeysText.{IsKeysText}
use Rattle.pcap_keys.specs.declared.facts.Frame.{Frame}
use Rattle.pcap_keys.specs.declared.selector.PlanLine.{PlanLine}
use Rattle.pcap_keys.specs.CapturedPackets.{IsCapture}
use Rattle.pcap_keys.specs.Planned.{packets as planned_packets}
use Rattle.pcap_keys.specs.PlansText.{IsPlanText}
use Rattle.script_run.specs.Listings.{tables_text}
use Rattle.stat_answer.specs.StatText.{stat_text}
use Rattle.script_run.specs.Drill.{drill_text}
use Rattle.desk_run.specs.DeskText.{IsDeskText}
use Rattle.key_answer.specs.Answer.{get_text, has_no_answer}
use Rattle.key_answer.specs.Question.{IsKey, at_moment}
use Rattle.compare_answer.specs.Compared.{GivesComparison}
use Rattle.explain_answer.specs.Explained.{explain_text, lacks_any}
use Rattle.pip_base.specs.Whole.{size_limit}
use Rattle.command_words.specs.declared.page.Page.{Page}
use Rattle.command_words.specs.Words.{Command, IsCommand, AsksFor, IsNoCommand, IsRunCommand, IsListCommand, IsDumpCommand, IsDrillCommand, IsJudgeCommand, IsCaptureCommand, IsDeskCommand, IsGetCommand, IsExplainCommand, IsCompareCommand, IsStatCommand, IsJudgeCaptureCommand, IsSetsCommand}
use Rattle.input_files.specs.Inputs.{Input, inputs, IsOf}
use Rattle.input_files.specs.Given.{Has, AreGiven}
use Rattle.top_call.specs.Transcript.{AreRulesOf, most_sections, leaves_any}
use Rattle.top_call.specs.Calls.{Call}
use Rattle.top_call.specs.Lines.{done_status, form_status}
use Rattle.top_call.specs.Texts.{listing_output, run_output}
use Rattle.top_call.specs.Answers.{Delivers, TellsPage}

-- A file's bytes, within their size, are read as this script.
abbrev pub HasScript : (List ℕ → Option (List ℕ)) → List ℕ → Script → Type 0
HasScript told name s = Has told name (λ text. IsScriptText text s)

-- A file's bytes, within their size, are a ruleset that means this script.
abbrev pub HasRuleset : (List ℕ → Option (List ℕ)) → List ℕ → Script → Type 0
HasRuleset told name s = Has told name (λ text. IsRulesetText text s)

-- A file's bytes, within their size, are read as these packets under the sets of a script.
abbrev pub HasKeys : (List ℕ → Option (List ℕ)) → List ℕ → Script → List (List Packet) → Type 0
HasKeys told name s keys = Has told name (λ text. IsKeysText s.schema text keys)

-- A file's bytes, within their size, are read as these rules over the sets of a script.
abbrev pub HasRules : (List ℕ → Option (List ℕ)) → List ℕ → Script → Rules → Type 0
HasRules told name s rules = Has told name (λ text. AreRulesOf s text rules)

-- The bytes of two files, within their size, are a plan under the sets of a script, and a capture. The plan makes
-- these packets of the capture.
pub record HasCaptured (told : List ℕ → Option (List ℕ)) (plan_name capture_name : List ℕ) (s : Script) (packets : List Packet) : Type 0 where
  pub lines : List PlanLine
  pub frames : List Frame
  pub plan : Has told plan_name (λ text. IsPlanText s.schema text lines)
  pub capture : Has told capture_name (λ text. IsCapture text frames)
  pub made : packets ≡ planned_packets lines frames

-- A call has this status, or memory ran out.
abbrev pub IsStatus : ℕ → Call → Type 0
IsStatus status c = (c.status ≡ status) ⊎ (c.status ≡ 7)

-- A file came to its turn, and the shelf shows its text. The shelf also shows the files before it, and these are of
-- their forms.
pub record HasTurn (c : Call) (earlier : List Input) (i : Input) (text : List ℕ) : Type 0 where
  pub command : Command
  pub later : List Input
  pub sets : List SetDecl
  pub is_command : IsCommand c.words command
  pub in_order : inputs command ≡ earlier ++ i ∷ later
  pub given : AreGiven c.shelf.told sets earlier
  pub is_told : c.shelf.told i.name ≡ Some text

-- Each status comes exactly if its cause is there, in the order of the tests: the words, the files in their turns,
-- the work.
pub record IsExact (c : Call) : Type 0 where
  pub usage : IsNoCommand c.words → c.status ≡ 2
  pub large : (earlier : List Input) (i : Input) (text : List ℕ) → HasTurn c earlier i text → size_limit < length text → IsStatus 8 c
  pub bad : (earlier : List Input) (i : Input) (text : List ℕ) → HasTurn c earlier i text → length text ≤ size_limit
      → ((sets : List SetDecl) → AreGiven c.shelf.told sets earlier → IsOf i.form sets text → ⊥) → IsStatus (form_status i.form) c
  pub done_run : (script keys : List ℕ) (threads : ℕ) (keep_going : Bool) (s : Script) (packets : List (List Packet)) → IsRunCommand c.words script keys threads keep_going → HasScript c.shelf.told script s → HasKeys c.shelf.told keys s packets
      → IsStatus (done_status (has_refusal (mode_of keep_going) s)) c
  pub done_judge : (script rules keys : List ℕ) (threads : ℕ) (keep_going : Bool) (s : Script) (r : Rules) (packets : List (List Packet)) → IsJudgeCommand c.words script rules keys threads keep_going → HasScript c.shelf.told script s
      → HasRules c.shelf.told rules s r → HasKeys c.shelf.told keys s packets → IsStatus (done_status (has_refusal (mode_of keep_going) s)) c
  pub done_capture : (script plan packets : List ℕ) (threads : ℕ) (keep_going : Bool) (s : Script) (taken : List Packet) → IsCaptureCommand c.words script plan packets threads keep_going → HasScript c.shelf.told script s
      → HasCaptured c.shelf.told plan packets s taken → IsStatus (done_status (has_refusal (mode_of keep_going) s)) c
  pub done_judge_capture : (script rules plan packets : List ℕ) (threads : ℕ) (keep_going : Bool) (s : Script) (r : Rules) (taken : List Packet) → IsJudgeCaptureCommand c.words script rules plan packets threads keep_going → HasScript c.shelf.told script s
      → HasRules c.shelf.told rules s r → HasCaptured c.shelf.told plan packets s taken → IsStatus (done_status (has_refusal (mode_of keep_going) s)) c
  pub done_list : (script : List ℕ) (keep_going : Bool) (s : Script) → IsListCommand c.words script keep_going → HasScript c.shelf.told script s → IsStatus (done_status (has_refusal (mode_of keep_going) s)) c
  pub done_dump : (script : List ℕ) (keep_going : Bool) (s : Script) → IsDumpCommand c.words script keep_going → HasScript c.shelf.told script s → IsStatus (done_status (has_refusal (mode_of keep_going) s)) c
  pub done_stat : (script : List ℕ) (keep_going : Bool) (s : Script) → IsStatCommand c.words script keep_going → HasScript c.shelf.told script s → IsStatus (done_status (has_refusal (mode_of keep_going) s)) c
  pub too_many : (script : List ℕ) (keep_going : Bool) (s : Script) → IsDeskCommand c.words script keep_going → HasScript c.shelf.told script s → most_sections < length s.sections → IsStatus 12 c
  pub done_desk : (script : List ℕ) (keep_going : Bool) (s : Script) → IsDeskCommand c.words script keep_going → HasScript c.shelf.told script s → length s.sections ≤ most_sections → (refused : Bool) × IsStatus (done_status refused) c
  pub bad_key : (script : List ℕ) (key : List (List ℕ)) (moment : Option ℕ) (keep_going : Bool) (s : Script) → IsGetCommand c.words script key moment keep_going → HasScript c.shelf.told script s
      → ((p : Packet) → IsKey s.schema key p → ⊥) → IsStatus 13 c
  pub done_get : (script : List ℕ) (key : List (List ℕ)) (moment : Option ℕ) (keep_going : Bool) (s : Script) (p : Packet) → IsGetCommand c.words script key moment keep_going → HasScript c.shelf.told script s → IsKey s.schema key p
      → IsStatus (done_status (has_no_answer (mode_of keep_going) s (at_moment moment s p))) c
  pub done_explain : (script keys : List ℕ) (keep_going : Bool) (s : Script) (packets : List (List Packet)) → IsExplainCommand c.words script keys keep_going → HasScript c.shelf.told script s → HasKeys c.shelf.told keys s packets
      → IsStatus (done_status (lacks_any (mode_of keep_going) s packets)) c
  pub done_compare : (first second : List ℕ) (keep_going : Bool) (s t : Script) → IsCompareCommand c.words first second keep_going → HasScript c.shelf.told first s → HasScript c.shelf.told second t → (differs : Bool) × IsStatus (done_status differs) c
  pub done_sets : (file : List ℕ) (s : Script) → IsSetsCommand c.words file → (h : HasRuleset c.shelf.told file s) → IsStatus (done_status (leaves_any h.text)) c
  pub done_drill : (seed count threads : ℕ) → IsDrillCommand c.words seed count threads → IsStatus 0 c
  pub done_page : (p : Page) → AsksFor c.words p → c.status ≡ 0

-- This text of a script was written whole. The status is 1 if a change is refused, and 0 otherwise.
pub record DeliversText (mode : Mode) (s : Script) (text : List ℕ) (c : Call) : Type 0 where
  pub written : Appends c.taken_before c.taken_now text
  pub status : c.status ≡ done_status (has_refusal mode s)

-- Memory ran out, and nothing was written.
abbrev pub RanOut : Call → Type 0
RanOut c = (c.status ≡ 7) × Keeps c.taken_before c.taken_now

-- The transcript of a script and a key file was written in the form of the answer, with so many threads.
pub record DeliversRun (threads : ℕ) (mode : Mode) (s : Script) (keys : List (List Packet)) (c : Call) : Type 0 where
  pub lines : List Line
  pub legal : Legal s keys threads mode lines
  pub delivers : DeliversText mode s (run_output c.answer mode s keys lines) c

-- The transcript of a script and a key file was written, with so many threads, and the chains' verdict on each
-- packet.
pub record DeliversJudgement (threads : ℕ) (mode : Mode) (s : Script) (rules : Rules) (keys : List (List Packet)) (c : Call) : Type 0 where
  pub lines : List Line
  pub legal : AreLegal (IsJudged rules) s keys threads mode lines
  pub delivers : DeliversText mode s (run_text (judged_text rules) mode s keys lines) c

-- The text of a desk was written. The status is 1 if the text reports a refusal, and 0 otherwise.
pub record DeliversDesk (s : Script) (keep_going : Bool) (c : Call) : Type 0 where
  pub refused : Bool
  pub text : List ℕ
  pub is_desk : IsDeskText s keep_going refused text
  pub written : Appends c.taken_before c.taken_now text
  pub status : c.status ≡ done_status refused

-- The answer to a key was written. The status is 1 if a change is refused or no element answers, and 0 otherwise.
pub record DeliversAnswer (mode : Mode) (s : Script) (p : Packet) (c : Call) : Type 0 where
  pub written : Appends c.taken_before c.taken_now (get_text mode s p)
  pub status : c.status ≡ done_status (has_no_answer mode s p)

-- The explanation of the answers to packets was written. The status is 1 if a change is refused or a packet has no element, and 0
-- otherwise.
pub record DeliversExplanation (mode : Mode) (s : Script) (packets : List (List Packet)) (c : Call) : Type 0 where
  pub written : Appends c.taken_before c.taken_now (explain_text mode s packets)
  pub status : c.status ≡ done_status (lacks_any mode s packets)

-- The comparison of two scripts was written. The status is 1 if a change is refused or sets differ, and 0 otherwise.
pub record DeliversComparison (mode : Mode) (first : List ℕ) (s : Script) (second : List ℕ) (t : Script) (c : Call) : Type 0 where
  pub differs : Bool
  pub text : List ℕ
  pub gives : GivesComparison mode first s second t differs text
  pub written : Appends c.taken_before c.taken_now text
  pub status : c.status ≡ done_status differs

-- What is kept of the ruleset with this text was written. It is a script, the one that the ruleset means. The status is 1 if a set
-- is left out, and 0 otherwise.
pub record DeliversSets (text : List ℕ) (s : Script) (c : Call) : Type 0 where
  pub kept : List ℕ
  pub is_kept : IsKept text (all_taken text) kept
  pub is_script : IsScriptText kept s
  pub written : Appends c.taken_before c.taken_now kept
  pub status : c.status ≡ done_status (leaves_any text)

-- The words are a command, and its files are within their size and of their forms. Then the output of exactly these
-- files was written; or memory ran out, and nothing was written. A drill has no files. A page is written in any case.
pub record Completes (c : Call) : Type 0 where
  pub run : (script keys : List ℕ) (threads : ℕ) (keep_going : Bool) (s : Script) (packets : List (List Packet)) → IsRunCommand c.words script keys threads keep_going → HasScript c.shelf.told script s → HasKeys c.shelf.told keys s packets
      → DeliversRun threads (mode_of keep_going) s packets c ⊎ RanOut c
  pub judge : (script rules keys : List ℕ) (threads : ℕ) (keep_going : Bool) (s : Script) (r : Rules) (packets : List (List Packet)) → IsJudgeCommand c.words script rules keys threads keep_going → HasScript c.shelf.told script s
      → HasRules c.shelf.told rules s r → HasKeys c.shelf.told keys s packets → DeliversJudgement threads (mode_of keep_going) s r packets c ⊎ RanOut c
  pub capture : (script plan packets : List ℕ) (threads : ℕ) (keep_going : Bool) (s : Script) (taken : List Packet) → IsCaptureCommand c.words script plan packets threads keep_going → HasScript c.shelf.told script s
      → HasCaptured c.shelf.told plan packets s taken → DeliversRun threads (mode_of keep_going) s (taken ∷ []) c ⊎ RanOut c
  pub judge_capture : (script rules plan packets : List ℕ) (threads : ℕ) (keep_going : Bool) (s : Script) (r : Rules) (taken : List Packet) → IsJudgeCaptureCommand c.words script rules plan packets threads keep_going → HasScript c.shelf.told script s
      → HasRules c.shelf.told rules s r → HasCaptured c.shelf.told plan packets s taken → DeliversJudgement threads (mode_of keep_going) s r (taken ∷ []) c ⊎ RanOut c
  pub list : (script : List ℕ) (keep_going : Bool) (s : Script) → IsListCommand c.words script keep_going → HasScript c.shelf.told script s → DeliversText (mode_of keep_going) s (listing_output c.answer (mode_of keep_going) s) c ⊎ RanOut c
  pub dump : (script : List ℕ) (keep_going : Bool) (s : Script) → IsDumpCommand c.words script keep_going → HasScript c.shelf.told script s → DeliversText (mode_of keep_going) s (tables_text (mode_of keep_going) s) c ⊎ RanOut c
  pub stat : (script : List ℕ) (keep_going : Bool) (s : Script) → IsStatCommand c.words script keep_going → HasScript c.shelf.told script s → DeliversText (mode_of keep_going) s (stat_text (mode_of keep_going) s) c ⊎ RanOut c
  pub desk : (script : List ℕ) (keep_going : Bool) (s : Script) → IsDeskCommand c.words script keep_going → HasScript c.shelf.told script s → length s.sections ≤ most_sections → DeliversDesk s keep_going c ⊎ RanOut c
  pub get : (script : List ℕ) (key : List (List ℕ)) (moment : Option ℕ) (keep_going : Bool) (s : Script) (p : Packet) → IsGetCommand c.words script key moment keep_going → HasScript c.shelf.told script s → IsKey s.schema key p
      → DeliversAnswer (mode_of keep_going) s (at_moment moment s p) c ⊎ RanOut c
  pub explain : (script keys : List ℕ) (keep_going : Bool) (s : Script) (packets : List (List Packet)) → IsExplainCommand c.words script keys keep_going → HasScript c.shelf.told script s → HasKeys c.shelf.told keys s packets
      → DeliversExplanation (mode_of keep_going) s packets c ⊎ RanOut c
  pub compare : (first second : List ℕ) (keep_going : Bool) (s t : Script) → IsCompareCommand c.words first second keep_going → HasScript c.shelf.told first s → HasScript c.shelf.told second t
      → DeliversComparison (mode_of keep_going) first s second t c ⊎ RanOut c
  pub sets : (file : List ℕ) (s : Script) → IsSetsCommand c.words file → (h : HasRuleset c.shelf.told file s) → DeliversSets h.text s c ⊎ RanOut c
  pub drill : (seed count threads : ℕ) → IsDrillCommand c.words seed count threads → Delivers (drill_text seed count) c ⊎ RanOut c
  pub page : TellsPage c
