use Rattle.std.proofs.Common.{◌≡◌, ◌++◌, take}
use Rattle.std.specs.List.{flat_map}
use Rattle.desk_run.specs.DeskText.{refusals_by}
use Rattle.desk_run.proofs.whole.add_logged.Given as goal

abbrev pub invariant-loop-entry : goal.invariant-loop-entry
invariant-loop-entry l = l.refusals.items ≡ l.initial.refusals.items ++ flat_map refusals_by (take l.entry-index l.entry-items)
