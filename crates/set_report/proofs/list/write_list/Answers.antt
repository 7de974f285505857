use Rattle.std.proofs.Common.{rules}
use Rattle.text_pieces.proofs.PartLaws.{on_err}
use Rattle.set_report.proofs.ListLaws.{cut}
use Rattle.set_report.proofs.list.write_list.Goals as goal

pub returns-then-is_err-clause-err : goal.returns-then-is_err-clause-err
returns-then-is_err-clause-err c =
    on_err c.write_tables-written.result
    (cut c.args.out.now.items c.write_tables-written.new.out.items c.truncate.new.self.items _ _ c.write_tables-written.ensures.kept (search rules) c.truncate.ensures.items)
