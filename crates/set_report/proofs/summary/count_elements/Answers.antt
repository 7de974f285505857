use Rattle.std.proofs.Common.{◌∙◌, arith, rules}
use Rattle.set_report.proofs.SummaryLaws.{counted-more}
use Rattle.set_report.proofs.summary.count_elements.Goals as goal

pub sets-preserved : goal.sets-preserved
sets-preserved c = record {
  count = counted-more c.args.sets.now c.sets.i c.sets.count c.from-count.result c.at.result.now (search rules) c.sets.invariant.count (c.from-count.ensures ∙ c.len.ensures);
  small = omega (arith, c.from-count.ensures, c.len.type_inv, c.sets.invariant.small);
}
