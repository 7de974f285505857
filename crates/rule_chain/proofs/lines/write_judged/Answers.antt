use Rattle.std.proofs.Common.{rules, subst}
use Rattle.std.proofs.lemmas.List.{get_or_default}
use Rattle.text_pieces.specs.Appends.{AppendsPart}
use Rattle.text_pieces.proofs.PartLaws.{on_err, item_part}
use Rattle.rule_chain.specs.JudgedText.{judged_line, judged_text}
use Rattle.rule_chain.proofs.lines.write_judged.Goals as goal

pub returns-in_err-write_line-clause-err : goal.returns-in_err-write_line-clause-err
returns-in_err-write_line-clause-err c =
    on_err c.from_residual.result (subst (λ ls. AppendsPart c.args.out.now.items c.write_line.new.out.items (judged_text c.args.chains.now ls)) c.as_slice-line-items.ensures
    (item_part (judged_line c.args.chains.now) c.as_slice-line-items.result.now c.loop-line.line-index _ c.args.out.now.items c.loop-line.out.items c.write_line.new.out.items
    c.loop-line-test.true (search (rules, get_or_default, c.loop-line-test.true)) c.loop-line.invariant c.in_err-write_line.ensures.err))
