use Rattle.std.proofs.Common.{take, codes}
use Rattle.set_report.specs.ListText.{element_text}
use Rattle.element_text.proofs.JoinLaws.{Joins}
use Rattle.set_report.proofs.list.write_each.Given as goal

abbrev pub invariant-elements : goal.invariant-elements
invariant-elements l = Joins (element_text l.set l.now) (codes ",\n\t\t\t     ") (take l.i l.elements) l.initial.out.items l.out.items l.separator
