use Rattle.std.proofs.Common.{◌≡◌, ap, subst, slice_get, Some}
use Rattle.set_model.specs.Control.{Generation}
use Rattle.set_report.specs.DumpText.{set_tables_text, dump_text}
use Rattle.text_pieces.proofs.PartLaws.{on_err}
use Rattle.set_report.proofs.Leaves.{Leaves, begun, further, broken}
use Rattle.set_report.proofs.DumpTables.{paired-more}
use Rattle.set_report.proofs.dump.write_dump.Goals as goal

pub sets-init : goal.sets-init
unfolding dump_text
sets-init c = begun c.args.out.now.items _

pub returns-in_err-write_kept_tables-clause-err : goal.returns-in_err-write_kept_tables-clause-err
returns-in_err-write_kept_tables-clause-err c =
    let at : slice_get c.args.generation.now.sets c.sets.i ≡ Some c.at-in-sets.result.now = cc (ap (λ (z : Generation). slice_get z.sets c.sets.i) c.generation.view_is, c.at-in-sets.ensures) in
    on_err c.from_residual.result (broken c.args.out.now.items c.sets.out.items c.write_kept_tables.new.out.items _ _ _
    (subst (λ t. Leaves c.args.out.now.items c.sets.out.items (dump_text c.args.schema.now c.args.generation.now.sets) t)
    (paired-more (λ set. set_tables_text set.0 set.1) c.args.schema.now c.args.generation.now.sets c.sets.i c.at.result.now c.at-in-sets.result.now c.at.ensures at) c.sets.invariant)
    c.in_err-write_kept_tables.ensures.err)

pub sets-preserved : goal.sets-preserved
sets-preserved c =
    let at : slice_get c.args.generation.now.sets c.sets.i ≡ Some c.at-in-sets.result.now = cc (ap (λ (z : Generation). slice_get z.sets c.sets.i) c.generation.view_is, c.at-in-sets.ensures) in
    further c.args.out.now.items c.sets.out.items c.write_kept_tables.new.out.items _ _ _
    (subst (λ t. Leaves c.args.out.now.items c.sets.out.items (dump_text c.args.schema.now c.args.generation.now.sets) t)
    (paired-more (λ set. set_tables_text set.0 set.1) c.args.schema.now c.args.generation.now.sets c.sets.i c.at.result.now c.at-in-sets.result.now c.at.ensures at) c.sets.invariant)
    c.in_ok-write_kept_tables.ensures.ok
