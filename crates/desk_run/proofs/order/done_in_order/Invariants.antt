use Rattle.std.proofs.Common.{◌≡◌, ◌++◌, length, map, reverse}
use Rattle.control_desk.specs.Woven.{IsWoven}
use Rattle.desk_run.proofs.order.done_in_order.Given as goal

-- the steps of the entries that are left, and those that were taken, the last entry's first
abbrev pub invariant-entries : goal.invariant-entries
invariant-entries l = record {
  woven : IsWoven l.sections l.entries.items;
  whole : map (λ e. e.steps) l.entries.items ++ reverse l.done.items ≡ map (λ e. e.steps) l.fn.log;
}

abbrev pub decreases-entries : goal.decreases-entries
decreases-entries l = length l.entries.items
