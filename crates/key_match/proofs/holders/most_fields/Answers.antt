use Rattle.set_model.specs.Expiry.{live}
use Rattle.set_model.specs.declared.element.Element.{Element}
use Rattle.key_match.specs.Holders.{field_count}
use Rattle.key_match.proofs.ListLaws.{raised-next}
use Rattle.key_match.proofs.holders.most_fields.Goals as goal

pub elements-preserved : goal.elements-preserved
elements-preserved c =
    raised-next c.args.elements.now c.elements.i c.at.result.now c.at.ensures (λ (e : Element). live e c.args.now) (field_count c.args.key.now) c.elements.most c.raised-most.result c.raised-most.ensures c.elements.invariant
