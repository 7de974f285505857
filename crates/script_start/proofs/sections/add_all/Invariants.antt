use Rattle.std.proofs.Common.{◌≡◌, ◌++◌, take}
use Rattle.script_start.proofs.sections.add_all.Given as goal

abbrev pub invariant-more : goal.invariant-more
invariant-more l = l.events ≡ l.initial.events ++ take l.event-index l.event-items
