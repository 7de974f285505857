use Rattle.std.proofs.Common.{take, codes}
use Rattle.set_report.specs.KindText.{kind_text}
use Rattle.element_text.proofs.JoinLaws.{Joins}
use Rattle.set_report.proofs.list.write_kinds.Given as goal

abbrev pub invariant-kinds : goal.invariant-kinds
invariant-kinds l = Joins kind_text (codes " . ") (take l.kind-index l.kinds) l.initial.out.items l.out.items l.separator
