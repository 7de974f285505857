use Rattle.std.proofs.Common.{arith, rules, ◌∙◌, sym}
use Rattle.std.proofs.lemmas.Result.{on_ok_weaker}
use Rattle.key_answer.proofs.LineLaws.{noted-set}
use Rattle.key_answer.proofs.lines.Lines.note.Goals as goal

pub returns-in-Some : goal.returns-in-Some
returns-in-Some c =
    on_ok_weaker c.put_line.result
    (λ put. noted-set c.index_mut.result.now c.put_line.new.lines (λ v. v.items) c.self.inside.sets.items c.args.set c.args.line c.in-Some.id c.args.made c.args.self.now (omega arith) (search rules) c.in-Some.is (search rules) put)
    c.put_line.ensures
