use Rattle.std.proofs.Common.{◌≡◌, ◌==◌, true}
use Rattle.set_model.specs.declared.element.Element.{Element}
use Rattle.set_model.specs.Key.{parts_fit}
use Rattle.key_match.specs.Holders.{most_fields, holds_many}
use Rattle.key_match.proofs.ListLaws.{fits-if}
use Rattle.key_match.proofs.miss.write_near.Goals as goal

pub write_nearest-requires-clause-fits : goal.write_nearest-requires-clause-fits
write_nearest-requires-clause-fits c =
    let a = c.args.asked.now in
    let most = most_fields a.key.now a.at a.elements.now in
    fits-if (λ (e : Element). parts_fit a.declared.now.kinds e.parts ≡ true) (holds_many a.key.now a.at most) a.elements.now (most == 0) c.nearest.result c.requires.parts c.nearest.ensures
