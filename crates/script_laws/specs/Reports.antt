-- What an output has of its run as data: the refused changes, and whether the last transaction failed.
use Rattle.std.specs.Prelude.{◌≡◌, ℕ, ◌-◌, Bool, true, false, List, Option, Some, None, length, slice_get}
use Rattle.std.specs.List.{filter_map}
use Rattle.set_model.specs.declared.report.Event.{Event}
use Rattle.set_model.specs.declared.report.Event.TheVariants.{Refused, Committed, Aborted, Dropped}
use Rattle.set_model.specs.declared.script.Script.{Script}
use Rattle.set_model.specs.Control.{Mode, history}
use Rattle.script_laws.specs.declared.output.Output.{Output}
use Rattle.script_laws.specs.declared.refusals.Refusal.{Refusal}

-- the refused change that an event of a control thread reports, if it reports one
abbrev pub refusal_in : ℕ → Event → Option Refusal
refusal_in clerk (Refused line set why) = Some (record { clerk = clerk; line = line; set = set; why = why })
refusal_in clerk (Committed generation purged) = None
refusal_in clerk (Aborted generation) = None
refusal_in clerk (Dropped generation) = None

-- The refused changes that the events of a control thread report, in their order.
abbrev pub refusals_in : ℕ → List Event → List Refusal
refusals_in clerk events = filter_map (refusal_in clerk) events

-- an event ends a transaction that failed
abbrev pub is_failure : Option Event → Bool
is_failure None = false
is_failure (Some (Refused line set why)) = false
is_failure (Some (Committed generation purged)) = false
is_failure (Some (Aborted generation)) = false
is_failure (Some (Dropped generation)) = true

-- The last transaction failed: the last event reports it.
abbrev pub has_failed : List Event → Bool
has_failed events = is_failure (slice_get events (length events - 1))

-- The refused changes of a script that a control runs alone.
abbrev pub refusals_of : Mode → Script → List Refusal
refusals_of mode script = refusals_in 0 (history mode script.schema script.sections).events

-- The last transaction of a script that a control runs alone failed.
abbrev pub ends_failed : Mode → Script → Bool
ends_failed mode script = has_failed (history mode script.schema script.sections).events

-- The data of an output are those of this script: its refused changes, each with its line, its set and the reason.
pub record IsReportOn (mode : Mode) (script : Script) (output : Output) : Type 0 where
  pub refusals_are : output.refusals.items ≡ refusals_of mode script
  pub script_is : output.script ≡ Some script
