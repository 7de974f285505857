use Rattle.std.proofs.Common.{◌≡◌, ◌++◌, take}
use Rattle.script_laws.specs.Reports.{refusals_in}
use Rattle.script_laws.proofs.refusals.add_refusals.Given as goal

abbrev pub invariant-loop-event : goal.invariant-loop-event
invariant-loop-event l = l.refusals.items ≡ l.initial.refusals.items ++ refusals_in l.clerk (take l.event-index l.events)
