use Rattle.std.proofs.Common.{arith}
use Rattle.set_report.proofs.ListLaws.{on_ok, elements_parts}
use Rattle.set_report.proofs.list.write_elements.Goals as goal

pub returns-clause-ok : goal.returns-clause-ok
returns-clause-ok c =
    on_ok c.write-2.result
    (λ e. elements_parts c.args.set.now c.args.now c.args.elements.now _ _ _ _ (omega arith) c.in_ok-write.ensures.ok c.in_ok-write_each.ensures.ok e)
    c.write-2.ensures.ok
