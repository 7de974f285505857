use Rattle.std.proofs.Common.{◌+◌, ◌-◌, ◌≤◌, length, All}
use Rattle.classifier_tests.proofs.ends.table.Given as goal

abbrev pub invariant-ends : goal.invariant-ends
invariant-ends l = record {
  room : l.n + 1 ≤ length l.ends.items + l.ends.spare;
  few : length l.ends.items ≤ l.n;
  places : All (λ e. 1 ≤ e.place) l.ends.items;
}

abbrev pub decreases-ends : goal.decreases-ends
decreases-ends l = l.n - length l.ends.items
