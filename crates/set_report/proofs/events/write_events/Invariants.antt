use Rattle.std.proofs.Common.{◌≡◌, ◌++◌, take}
use Rattle.set_report.specs.Remarks.{told_text}
use Rattle.set_report.proofs.events.write_events.Given as goal

-- the lines so far are appended
abbrev pub invariant-loop-event : goal.invariant-loop-event
invariant-loop-event l = l.out.items ≡ l.initial.out.items ++ told_text l.prefix l.schema (take l.event-index l.event-items)
