use Rattle.std.proofs.Common.{◌∙◌, rules}
use Rattle.stat_answer.proofs.FigureLaws.{aged-next, aged-few}
use Rattle.stat_answer.proofs.ages.ages_at.Goals as goal

pub elements-preserved : goal.elements-preserved
elements-preserved c = record {
  ages = c.with_element-ages.ensures ∙ aged-next c.args.now c.args.elements.now c.elements.i c.at.result.now c.elements.ages (search rules) c.elements.invariant.ages;
  few = aged-few c.args.now c.elements.i c.at.result.now c.elements.ages c.with_element-ages.result c.with_element-ages.ensures c.elements.invariant.few;
}
