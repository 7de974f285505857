-- The numbers that C gets.
use Rattle.std.specs.Prelude.{ℕ, ◌-◌, ◌^◌, Option, Some, None}
use Rattle.set_model.specs.declared.packet.Found.{Found}
use Rattle.pipapo_image.specs.declared.answers.Added.{Added}
use Rattle.pipapo_image.specs.declared.answers.Added.TheVariants.{New, Already, Renewed}
use Rattle.set_model.specs.declared.report.Why.TheVariants.{Overlap, Exists, Full, RulesFull, Missing}
use Rattle.pipapo_image.specs.declared.answers.ChangeError.{ChangeError}
use Rattle.pipapo_image.specs.declared.answers.ChangeError.TheVariants as errors
use Rattle.c_handles.specs.declared.answer.Answer.{Answer}
use Rattle.c_handles.specs.declared.fault.Fault.{Fault}
use Rattle.c_handles.specs.declared.fault.Fault.TheVariants.{Memory, Empty, Handle, Schema, Readers, Set, Length, Interval, Turn, Numbers, Script, Change, Room, Place, Note, Refused}

-- the id of what a lookup found, or the largest number
abbrev pub id_of : Option Found → ℕ
id_of None = 2 ^ 64 - 1
id_of (Some f) = f.id

-- an insertion: the element is new, was there already, or has another expiry
abbrev pub added_as : Added → Answer
added_as (New id) = record { id = id; field = 0; outcome = 1 }
added_as (Already id) = record { id = id; field = 0; outcome = 2 }
added_as (Renewed id) = record { id = id; field = 0; outcome = 3 }

-- a creation: the element is new
abbrev pub created_as : ℕ → Answer
created_as id = record { id = id; field = 0; outcome = 1 }

-- a deletion: the element is gone
abbrev pub removed_as : ℕ → Answer
removed_as id = record { id = id; field = 0; outcome = 4 }

-- a destruction: the element is gone, or wasn't there
abbrev pub destroyed_as : Option ℕ → Answer
destroyed_as None = record { id = 0; field = 0; outcome = 5 }
destroyed_as (Some id) = removed_as id

-- the number of a fault (pipapo.h, enum pipapo_error)
abbrev pub code_of : Fault → ℕ
code_of Memory = 1
code_of Empty = 2
code_of Handle = 3
code_of Schema = 4
code_of Readers = 5
code_of Set = 6
code_of Length = 7
code_of Interval = 8
code_of Turn = 9
code_of Numbers = 10
code_of Script = 11
code_of Change = 12
code_of Room = 13
code_of Place = 14
code_of Note = 15
code_of (Refused (Overlap id)) = 16
code_of (Refused (Exists id)) = 17
code_of (Refused Full) = 18
code_of (Refused (RulesFull field)) = 19
code_of (Refused Missing) = 20

-- the answer of a refused change: the id of the element in the way, and the field that is full; else zeros
abbrev pub refused_as : Fault → Answer
refused_as (Refused (Overlap id)) = record { id = id; field = 0; outcome = 0 }
refused_as (Refused (Exists id)) = record { id = id; field = 0; outcome = 0 }
refused_as (Refused (RulesFull field)) = record { id = 0; field = field; outcome = 0 }
refused_as other = record { id = 0; field = 0; outcome = 0 }

-- the fault of a change that the library refuses
abbrev pub fault_of : ChangeError → Fault
fault_of (errors.Refused why) = Refused why
fault_of errors.Memory = Memory
