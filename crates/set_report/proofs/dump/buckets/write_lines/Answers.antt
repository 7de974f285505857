use Rattle.std.proofs.Common.{sym, ◌∙◌, ap, ◌++◌, subst}
use Rattle.set_report.specs.DumpBuckets.{AreRowsFrom}
use Rattle.text_pieces.specs.Appends.{AppendsPart}
use Rattle.text_pieces.proofs.TwoParts.{err-with}
use Rattle.set_report.proofs.ListLaws.{on_ok}
use Rattle.set_report.proofs.DumpGroups.{rows-lines, same-lengths}
use Rattle.set_report.proofs.dump.buckets.write_lines.Goals as goal

pub write_runs-requires : goal.write_runs-requires
write_runs-requires c =
    let are : AreRowsFrom c.args.buckets.now.rows c.args.first c.args.count c.as_slice.result.now = subst (λ rows. AreRowsFrom c.args.buckets.now.rows c.args.first c.args.count rows) (sym c.as_slice.ensures.value) c.in_ok-rows.ensures in
    same-lengths c.args.buckets.now.rows c.args.first c.args.count c.as_slice.result.now are c.requires.within c.requires.long

pub returns-clause-ok : goal.returns-clause-ok
returns-clause-ok c =
    let are : AreRowsFrom c.args.buckets.now.rows c.args.first c.args.count c.as_slice.result.now = subst (λ rows. AreRowsFrom c.args.buckets.now.rows c.args.first c.args.count rows) (sym c.as_slice.ensures.value) c.in_ok-rows.ensures in
    on_ok c.write_runs.result (λ e. e ∙ ap (λ t. c.args.out.now.items ++ t) (rows-lines c.args.buckets.now.rows c.args.first c.args.count c.args.g c.as_slice.result.now are)) c.write_runs.ensures.ok

pub returns-clause-err : goal.returns-clause-err
returns-clause-err c =
    let are : AreRowsFrom c.args.buckets.now.rows c.args.first c.args.count c.as_slice.result.now = subst (λ rows. AreRowsFrom c.args.buckets.now.rows c.args.first c.args.count rows) (sym c.as_slice.ensures.value) c.in_ok-rows.ensures in
    err-with c.write_runs.result (λ h. subst (λ t. AppendsPart c.args.out.now.items c.write_runs.new.out.items t) (rows-lines c.args.buckets.now.rows c.args.first c.args.count c.args.g c.as_slice.result.now are) h) c.write_runs.ensures.err
