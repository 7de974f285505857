use Rattle.std.proofs.Common.{◌≡◌, sym, subst, ◌++◌, OnOk, OnErr, rules}
use Rattle.text_pieces.specs.Appends.{AppendsPart}
use Rattle.set_report.proofs.SummaryLaws.{summary_line}
use Rattle.set_report.proofs.summary.write_summary.Goals as goal

pub returns-clause-ok : goal.returns-clause-ok
returns-clause-ok c =
    subst (λ t. OnOk c.append_pieces.result (c.append_pieces.new.out.items ≡ c.args.out.now.items ++ t))
    (sym (summary_line c.args.events.now c.args.lines.now c.args.generation.now c.count_elements.result c.count_refusals.result c.generation.inside.number c.len.result c.count_matches.result c.sum_ids.result
    (search rules) (search rules) (search rules) (search rules) (search rules) (search rules)))
    c.append_pieces.ensures.ok

pub returns-clause-err : goal.returns-clause-err
returns-clause-err c =
    subst (λ t. OnErr c.append_pieces.result (AppendsPart c.args.out.now.items c.append_pieces.new.out.items t))
    (sym (summary_line c.args.events.now c.args.lines.now c.args.generation.now c.count_elements.result c.count_refusals.result c.generation.inside.number c.len.result c.count_matches.result c.sum_ids.result
    (search rules) (search rules) (search rules) (search rules) (search rules) (search rules)))
    c.append_pieces.ensures.err
