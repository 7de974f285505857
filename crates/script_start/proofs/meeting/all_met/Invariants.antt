use Rattle.std.proofs.Common.{◌≡◌, map}
use Rattle.script_start.specs.Meeting.{up_to_date}
use Rattle.script_start.proofs.meeting.all_met.Given as goal

-- the readers so far
abbrev pub invariant-readers : goal.invariant-readers
invariant-readers l = (l.control ≡ l.initial.control) × (l.all.items ≡ map (up_to_date l.initial.control) l.yielded)
