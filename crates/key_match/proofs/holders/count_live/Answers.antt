use Rattle.std.proofs.Common.{rules}
use Rattle.set_model.specs.Expiry.{live}
use Rattle.set_model.specs.declared.element.Element.{Element}
use Rattle.key_match.proofs.ListLaws.{counted-next, counted-few}
use Rattle.key_match.proofs.holders.count_live.Goals as goal

pub elements-preserved : goal.elements-preserved
elements-preserved c = record {
  count = counted-next c.args.elements.now c.elements.i c.at.result.now c.at.ensures (λ (e : Element). live e c.args.now) c.elements.count c.counted-count.result c.is_live.result c.is_live.ensures c.counted-count.ensures c.elements.invariant.count;
  few = counted-few c.elements.i c.elements.count c.counted-count.result c.is_live.result c.counted-count.ensures c.elements.invariant.few;
}
