-- The statuses, and the line of each fault.
use Rattle.std.specs.Prelude.{Bool, true, false, ℕ, List, [], ◌++◌, codes, decimal}
use Rattle.token_forms.specs.declared.token.Reason.{Reason}
use Rattle.token_forms.specs.declared.token.Reason.TheVariants as reasons
use Rattle.pcap_keys.specs.declared.error.CaptureReason.{CaptureReason}
use Rattle.pcap_keys.specs.declared.error.CaptureReason.TheVariants as capture_reasons
use Rattle.input_files.specs.declared.fault.Flaw.{Flaw}
use Rattle.input_files.specs.declared.fault.Flaw.TheVariants as flaws
use Rattle.input_files.specs.declared.fault.FileFault.{FileFault}
use Rattle.input_files.specs.declared.fault.FileFault.TheVariants as files
use Rattle.input_files.specs.Inputs.{FileForm, script, second, rules_of_nft, keys, rules, plan, capture, form_of}
use Rattle.key_answer.specs.declared.question.AnswerError.{AnswerError}
use Rattle.key_answer.specs.declared.question.AnswerError.TheVariants as answers
use Rattle.top_call.specs.declared.fault.Fault.{Fault}
use Rattle.top_call.specs.declared.fault.Fault.TheVariants.{Usage, File, TooManyClerks, BadKey, Memory}

-- the status of an output: 1 if it reports a refusal, that a key has no element, that scripts differ or that a set is left out, and 0 otherwise
abbrev pub done_status : Bool → ℕ
done_status true = 1
done_status false = 0

-- the status of a file that isn't of its form
abbrev pub form_status : FileForm → ℕ
form_status script = 3
form_status second = 3
form_status rules_of_nft = 3
form_status keys = 4
form_status rules = 9
form_status plan = 11
form_status capture = 10

-- the status of a file that can't be had
abbrev pub file_status : FileFault → ℕ
file_status (files.Bad flaw) = form_status (form_of flaw)
file_status (files.ReadFault name) = 5
file_status (files.TooLarge name) = 8
file_status files.Memory = 7

-- the status of a fault
-- the fault of a command without an output
abbrev pub answer_fault : AnswerError → Fault
answer_fault (answers.BadKey line reason bad schema) = BadKey line reason
answer_fault answers.Memory = Memory

abbrev pub status_of : Fault → ℕ
status_of Usage = 2
status_of (File fault) = file_status fault
status_of (TooManyClerks name) = 12
status_of (BadKey line reason) = 13
status_of Memory = 7

abbrev pub usage_line : List ℕ
usage_line = codes "pipapo: usage: run SCRIPT KEYS [--threads N] [--keep-going] [--sets] [--elements] | list SCRIPT [--keep-going] [--sets] [--json] | dump SCRIPT [--keep-going] [--sets] | drill SEED COUNT [--threads N] | judge SCRIPT RULES KEYS [--threads N] [--keep-going] [--sets] | judge SCRIPT RULES PLAN PCAP [--threads N] [--keep-going] [--sets] | capture SCRIPT PLAN PCAP [--threads N] [--keep-going] [--sets] [--elements] | desk SCRIPT [--keep-going] [--sets] | get [--at MOMENT] [--keep-going] [--sets] SCRIPT [FAMILY] TABLE SET VALUE . VALUE .. | explain SCRIPT KEYS [--keep-going] [--sets] | compare SCRIPT1 SCRIPT2 [--keep-going] [--sets] | stat SCRIPT [--keep-going] [--sets] | sets RULESET\n"

-- a line that ends with a name
abbrev pub named_line : List ℕ → List ℕ → List ℕ
named_line front name = (front ++ name) ++ codes "\n"

-- the words of a reason
abbrev pub reason_text : Reason → List ℕ
reason_text reasons.Character = codes "character"
reason_text reasons.End = codes "end"
reason_text reasons.LeftOut = codes "left out"
reason_text reasons.TypeWord = codes "type"
reason_text reasons.Value = codes "value"
reason_text reasons.Time = codes "time"
reason_text reasons.Moment = codes "moment"
reason_text reasons.Set = codes "set"
reason_text reasons.Number = codes "number"
reason_text reasons.Statement = codes "statement"

-- what follows the line number of a bad token: the reason
abbrev pub reason_end : Reason → List ℕ
reason_end reason = codes ": " ++ reason_text reason ++ codes "\n"

-- a line with the line number of a bad token, and the reason
abbrev pub placed_line : List ℕ → ℕ → Reason → List ℕ
placed_line front line reason = (front ++ decimal line) ++ reason_end reason

-- what is wrong with a capture
abbrev pub capture_reason_text : CaptureReason → List ℕ
capture_reason_text capture_reasons.Magic = codes "magic"
capture_reason_text capture_reasons.Cut = codes "cut"
capture_reason_text capture_reasons.Version = codes "version"
capture_reason_text capture_reasons.LinkType = codes "link type"
capture_reason_text capture_reasons.Length = codes "length"
capture_reason_text capture_reasons.Interface = codes "interface"
capture_reason_text capture_reasons.Options = codes "options"

-- what follows the number of a capture's byte: the reason
abbrev pub capture_end : CaptureReason → List ℕ
capture_end reason = codes ": " ++ capture_reason_text reason ++ codes "\n"

-- the line of a text that isn't of its form
abbrev pub flaw_line : Flaw → List ℕ
flaw_line (flaws.Script line reason) = placed_line (codes "pipapo: script line ") line reason
flaw_line (flaws.SecondScript line reason) = placed_line (codes "pipapo: second script line ") line reason
flaw_line (flaws.Ruleset line reason) = placed_line (codes "pipapo: ruleset line ") line reason
flaw_line (flaws.Keys line reason) = placed_line (codes "pipapo: keys line ") line reason
flaw_line (flaws.Rules line reason) = placed_line (codes "pipapo: rules line ") line reason
flaw_line (flaws.Plan line reason) = placed_line (codes "pipapo: plan line ") line reason
flaw_line (flaws.Capture byte reason) = (codes "pipapo: capture byte " ++ decimal byte) ++ capture_end reason

abbrev pub read_fault_line : List ℕ → List ℕ
read_fault_line = named_line (codes "pipapo: read fault: ")

abbrev pub too_large_line : List ℕ → List ℕ
too_large_line = named_line (codes "pipapo: too large: ")

-- the line of a script with more sections than a desk has control threads for
abbrev pub too_many_line : List ℕ → List ℕ
too_many_line = named_line (codes "pipapo: too many clerks: ")

-- the line of words that are no key
abbrev pub bad_key_line : ℕ → Reason → List ℕ
bad_key_line line reason = placed_line (codes "pipapo: key line ") line reason

-- the line of a file that can't be had; there is none if memory ran out
abbrev pub file_line : FileFault → List ℕ
file_line (files.Bad flaw) = flaw_line flaw
file_line (files.ReadFault name) = read_fault_line name.now
file_line (files.TooLarge name) = too_large_line name.now
file_line files.Memory = []

-- the line of a fault
abbrev pub fault_line : Fault → List ℕ
fault_line Usage = usage_line
fault_line (File fault) = file_line fault
fault_line (TooManyClerks name) = too_many_line name.now
fault_line (BadKey line reason) = bad_key_line line reason
fault_line Memory = []
