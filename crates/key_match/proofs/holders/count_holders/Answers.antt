use Rattle.std.proofs.Common.{◌&&◌}
use Rattle.set_model.specs.Expiry.{live}
use Rattle.set_model.specs.declared.element.Element.{Element}
use Rattle.key_match.specs.Holders.{holds_field}
use Rattle.key_match.proofs.ListLaws.{counted-next, counted-few}
use Rattle.key_match.proofs.holders.count_holders.Goals as goal

pub elements-preserved : goal.elements-preserved
elements-preserved c = record {
  count = counted-next c.args.elements.now c.elements.i c.at.result.now c.at.ensures (λ (e : Element). live e c.args.now && holds_field e (c.args.field, c.args.value)) c.elements.count c.counted-count.result c.holds_live.result c.holds_live.ensures c.counted-count.ensures c.elements.invariant.count;
  few = counted-few c.elements.i c.elements.count c.counted-count.result c.holds_live.result c.counted-count.ensures c.elements.invariant.few;
}
