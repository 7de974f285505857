use Rattle.std.proofs.Common.{◌<◌, sym, subst, length, None, arith}
use Rattle.std.proofs.lemmas.Option.{get_or_from_slice_get}
use Rattle.set_tables.specs.declared.End.{End}
use Rattle.set_report.specs.DumpText.{end_text}
use Rattle.text_pieces.specs.Appends.{AppendsPart}
use Rattle.text_pieces.proofs.PartLaws.{on_err, item_part_at}
use Rattle.set_report.proofs.DumpGroups.{item-more}
use Rattle.set_report.proofs.dump.write_ends.Goals as goal

pub returns-in_err-write_end-clause-err : goal.returns-in_err-write_end-clause-err
returns-in_err-write_end-clause-err c =
    let d : End = record { place = 0; expiry = None } in
    let inside : c.rules.i < length c.args.ends.now.items = omega arith in
    on_err c.from_residual.result (item_part_at end_text c.args.ends.now.items c.rules.i d c.args.out.now.items c.rules.out.items c.write_end.new.out.items inside c.rules.invariant
    (subst (λ x. AppendsPart c.rules.out.items c.write_end.new.out.items (end_text x)) (sym (get_or_from_slice_get c.args.ends.now.items c.rules.i c.at.result.now d c.at.ensures)) c.in_err-write_end.ensures.err))

pub rules-preserved : goal.rules-preserved
rules-preserved c = item-more end_text c.args.ends.now.items c.rules.i c.at.result.now c.args.out.now.items c.rules.out.items c.write_end.new.out.items c.at.ensures c.rules.invariant c.in_ok-write_end.ensures.ok
