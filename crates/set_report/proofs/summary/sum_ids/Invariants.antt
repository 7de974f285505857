use Rattle.std.proofs.Common.{◌≡◌, ◌*◌, ◌≤◌, take}
use Rattle.std.specs.List.{sum_by}
use Rattle.set_report.specs.SummaryText.{id_given}
use Rattle.set_report.proofs.summary.sum_ids.Given as goal

-- the sum so far, of ids of 64 bits
abbrev pub invariant-lines : goal.invariant-lines
invariant-lines l = record {
  sum : l.sum ≡ sum_by (λ x. id_given x.verdict) (take l.line-index l.lines);
  small : l.sum ≤ 18446744073709551615 * l.line-index;
}
