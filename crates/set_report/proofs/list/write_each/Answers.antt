use Rattle.std.proofs.Common.{codes}
use Rattle.set_report.specs.ListText.{element_text}
use Rattle.element_text.proofs.JoinLaws.{joins_get, two_writes}
use Rattle.set_report.proofs.list.write_each.Goals as goal

pub elements-preserved : goal.elements-preserved
elements-preserved c =
    joins_get (element_text c.args.set.now c.args.now) (codes ",\n\t\t\t     ") c.args.elements.now c.elements.i c.at-element.result.now _ _ _ _ c.at-element.ensures c.elements.invariant
    (two_writes _ _ _ _ _ c.in_ok-write.ensures.ok c.in_ok-write_element.ensures.ok)
