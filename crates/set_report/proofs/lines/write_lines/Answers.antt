use Rattle.std.proofs.Common.{rules, subst}
use Rattle.std.proofs.lemmas.List.{get_or_default}
use Rattle.set_model.specs.Text.{packet_text, lines_text}
use Rattle.text_pieces.specs.Appends.{AppendsPart}
use Rattle.text_pieces.proofs.PartLaws.{on_err, item_part}
use Rattle.set_report.proofs.lines.write_lines.Goals as goal

pub returns-in_err-write_line-clause-err : goal.returns-in_err-write_line-clause-err
returns-in_err-write_line-clause-err c =
    on_err c.from_residual.result (subst (λ ls. AppendsPart c.args.out.now.items c.write_line.new.out.items (lines_text ls)) c.as_slice-line-items.ensures
    (item_part packet_text c.as_slice-line-items.result.now c.loop-line.line-index _ c.args.out.now.items c.loop-line.out.items c.write_line.new.out.items
    c.loop-line-test.true (search (rules, get_or_default, c.loop-line-test.true)) c.loop-line.invariant c.in_err-write_line.ensures.err))
