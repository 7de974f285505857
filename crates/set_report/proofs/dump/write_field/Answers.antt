use Rattle.std.proofs.Common.{◌∙◌, ap, subst, ◌++◌, append_assoc}
use Rattle.set_report.specs.DumpText.{heading_text, ways_text}
use Rattle.set_report.specs.DumpBuckets.{all_buckets_text}
use Rattle.text_pieces.specs.Appends.{AppendsPart}
use Rattle.text_pieces.proofs.PartLaws.{on_err}
use Rattle.text_pieces.proofs.TwoParts.{first_part, second_part, ok-with, err-with}
use Rattle.set_report.proofs.DumpTables.{field-is, kind-within}
use Rattle.set_report.proofs.dump.write_field.Goals as goal

pub returns-in_err-write_table-clause-err : goal.returns-in_err-write_table-clause-err
returns-in_err-write_table-clause-err c =
    on_err c.from_residual.result (subst (λ t. AppendsPart c.args.out.now.items c.write_table.new.out.items t) (field-is c.args.set.now.kinds c.args.set.now.elements c.index-index.result.now c.args.f c.args.kind c.at.result.now c.index-index.ensures.tables c.requires (cc c.at.ensures))
    (first_part c.args.out.now.items c.write_table.new.out.items (heading_text c.args.f c.args.kind c.at.result.now.width c.at.result.now.rules ++ all_buckets_text c.at.result.now) (ways_text c.args.set.now.kinds c.args.set.now.elements c.args.f) c.in_err-write_table.ensures.err))

pub returns-clause-ok : goal.returns-clause-ok
returns-clause-ok c =
    ok-with c.write_ways.result (λ h. h
    ∙ ap (λ m. m ++ (ways_text c.args.set.now.kinds c.args.set.now.elements c.args.f)) c.in_ok-write_table.ensures.ok
    ∙ append_assoc c.args.out.now.items (heading_text c.args.f c.args.kind c.at.result.now.width c.at.result.now.rules ++ all_buckets_text c.at.result.now) (ways_text c.args.set.now.kinds c.args.set.now.elements c.args.f)
    ∙ ap (λ t. c.args.out.now.items ++ t) (field-is c.args.set.now.kinds c.args.set.now.elements c.index-index.result.now c.args.f c.args.kind c.at.result.now c.index-index.ensures.tables c.requires (cc c.at.ensures)))
    (c.write_ways.ensures.ok c.args.set.now.kinds c.args.set.now.elements c.index-index.ensures.tables (kind-within c.args.set.now.kinds c.args.f c.args.kind c.requires))

pub returns-clause-err : goal.returns-clause-err
returns-clause-err c =
    err-with c.write_ways.result (λ h. subst (λ t. AppendsPart c.args.out.now.items c.write_ways.new.out.items t) (field-is c.args.set.now.kinds c.args.set.now.elements c.index-index.result.now c.args.f c.args.kind c.at.result.now c.index-index.ensures.tables c.requires (cc c.at.ensures))
    (second_part c.args.out.now.items c.write_table.new.out.items c.write_ways.new.out.items (heading_text c.args.f c.args.kind c.at.result.now.width c.at.result.now.rules ++ all_buckets_text c.at.result.now) (ways_text c.args.set.now.kinds c.args.set.now.elements c.args.f) c.in_ok-write_table.ensures.ok h))
    (c.write_ways.ensures.err c.args.set.now.kinds c.args.set.now.elements c.index-index.ensures.tables (kind-within c.args.set.now.kinds c.args.f c.args.kind c.requires))
