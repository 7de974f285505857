use Rattle.std.proofs.Common.{◌<◌, sym, subst, length, arith}
use Rattle.std.proofs.lemmas.Option.{get_or_from_slice_get}
use Rattle.set_tables.specs.declared.Span.{Span}
use Rattle.set_report.specs.DumpText.{span_text}
use Rattle.text_pieces.specs.Appends.{AppendsPart}
use Rattle.text_pieces.proofs.PartLaws.{on_err, item_part_at}
use Rattle.set_report.proofs.DumpGroups.{item-more}
use Rattle.set_report.proofs.dump.write_spans.Goals as goal

pub returns-in_err-write_span-clause-err : goal.returns-in_err-write_span-clause-err
returns-in_err-write_span-clause-err c =
    let d : Span = record { first = 0; count = 0 } in
    let inside : c.rules.i < length c.args.map.now.items = omega arith in
    on_err c.from_residual.result (item_part_at span_text c.args.map.now.items c.rules.i d c.args.out.now.items c.rules.out.items c.write_span.new.out.items inside c.rules.invariant
    (subst (λ x. AppendsPart c.rules.out.items c.write_span.new.out.items (span_text x)) (sym (get_or_from_slice_get c.args.map.now.items c.rules.i c.at.result.now d c.at.ensures)) c.in_err-write_span.ensures.err))

pub rules-preserved : goal.rules-preserved
rules-preserved c = item-more span_text c.args.map.now.items c.rules.i c.at.result.now c.args.out.now.items c.rules.out.items c.write_span.new.out.items c.at.ensures c.rules.invariant c.in_ok-write_span.ensures.ok
