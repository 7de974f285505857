use Rattle.std.proofs.Common.{codes, decimal}
use Rattle.std.proofs.lemmas.Result.{on_ok_weaker}
use Rattle.compare_answer.proofs.VerdictLaws.{holder-parts}
use Rattle.compare_answer.proofs.verdict.write_holder.Goals as goal

pub returns : goal.returns
returns c =
    on_ok_weaker c.write_line.result
    (λ wrote. holder-parts c.args.out.now.items c.append_pieces.new.out.items _ (codes " is in element ") (decimal c.args.id) (codes " of ") c.args.set.now.file.now _ c.in_ok-append_pieces.ensures.ok wrote)
    c.write_line.ensures.ok
