use Rattle.std.proofs.Common.{◌≡◌, ◌*◌, ◌≤◌, take}
use Rattle.set_report.specs.SummaryText.{element_count}
use Rattle.set_report.proofs.summary.count_elements.Given as goal

-- the elements so far, fewer than 2 to the power 64 in each set
abbrev pub invariant-sets : goal.invariant-sets
invariant-sets l = record {
  count : l.count ≡ element_count (take l.i l.sets);
  small : l.count ≤ 18446744073709551615 * l.i;
}
