use Rattle.std.proofs.Common.{◌≡◌, ◌++◌, length, reverse}
use Rattle.desk_run.proofs.order.take_last.Given as goal

-- the steps that stay so far, and those that were taken, the last one first
abbrev pub invariant-loop : goal.invariant-loop
invariant-loop l = record {
  whole : l.section ++ reverse l.last.items ≡ l.initial.section;
  size : length l.last.items ≡ l.counter;
}
