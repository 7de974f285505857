-- What C gets of a script that starts nothing.
use Rattle.std.specs.Prelude.{ℕ}
use Rattle.set_model.specs.declared.report.Why.{Why}
use Rattle.token_forms.specs.declared.token.Reason.{Reason}
use Rattle.token_forms.specs.declared.token.Reason.TheVariants as reasons
use Rattle.script_start.specs.declared.error.StartError.{StartError}
use Rattle.script_start.specs.declared.error.StartError.TheVariants as errors
use Rattle.c_handles.specs.Codes.{code_of, refused_as}
use Rattle.c_handles.specs.declared.fault.Fault.{Fault}
use Rattle.c_handles.specs.declared.fault.Fault.TheVariants.{Memory, Script, Change, Refused}
use Rattle.c_handles.specs.declared.script_fault.ScriptFault.{ScriptFault}

-- the number of a reason (pipapo.h, enum pipapo_reason)
abbrev pub number_of : Reason → ℕ
number_of reasons.Character = 1
number_of reasons.End = 2
number_of reasons.LeftOut = 3
number_of reasons.TypeWord = 4
number_of reasons.Value = 5
number_of reasons.Time = 6
number_of reasons.Moment = 7
number_of reasons.Set = 8
number_of reasons.Number = 9
number_of reasons.Statement = 10

-- no place in a script
abbrev pub no_place : ScriptFault
no_place = record { line = 0; column = 0; id = 0; reason = 0; cause = 0; set = 0; field = 0 }

-- the place of a bad token and its reason; of a refused change its line, its set, and what the answer of the change has
abbrev pub place_of : StartError → ScriptFault
place_of (errors.Bad token) = record { line = token.line; column = token.column; id = 0; reason = number_of token.reason; cause = 0; set = 0; field = 0 }
place_of (errors.Refused line set why) = record { line = line; column = 0; id = (refused_as (Refused why)).id; reason = 0; cause = code_of (Refused why); set = set; field = (refused_as (Refused why)).field }
place_of errors.Memory = no_place

-- the fault of a text that starts nothing
abbrev pub fault_of_start : StartError → Fault
fault_of_start (errors.Bad token) = Script
fault_of_start (errors.Refused line set why) = Change
fault_of_start errors.Memory = Memory
