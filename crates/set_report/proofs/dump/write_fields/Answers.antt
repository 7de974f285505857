use Rattle.std.proofs.Common.{◌≡◌, ap, subst, slice_get, Some, flat_map}
use Rattle.std.specs.List.{enumerate_from}
use Rattle.set_report.specs.DumpText.{field_text}
use Rattle.text_pieces.proofs.PartLaws.{on_err}
use Rattle.set_report.proofs.Leaves.{Leaves, further, broken}
use Rattle.set_report.proofs.DumpTables.{numbered-more}
use Rattle.set_report.proofs.dump.write_fields.Goals as goal

pub returns-in_err-write_field-clause-err : goal.returns-in_err-write_field-clause-err
returns-in_err-write_field-clause-err c =
    let at : slice_get c.args.set.now.kinds c.fields.f ≡ Some c.at.result.now = cc (ap (λ kinds. slice_get kinds c.fields.f) c.kinds-kinds.ensures, c.at.ensures) in
    on_err c.from_residual.result (broken c.args.out.now.items c.fields.out.items c.write_field.new.out.items _ _ _
    (subst (λ t. Leaves c.args.out.now.items c.fields.out.items (flat_map (field_text c.args.set.now.kinds c.args.set.now.elements) (enumerate_from 0 c.args.set.now.kinds)) t) (numbered-more (field_text c.args.set.now.kinds c.args.set.now.elements) c.args.set.now.kinds c.fields.f c.at.result.now at) c.fields.invariant)
    c.in_err-write_field.ensures.err)

pub fields-preserved : goal.fields-preserved
fields-preserved c =
    let at : slice_get c.args.set.now.kinds c.fields.f ≡ Some c.at.result.now = cc (ap (λ kinds. slice_get kinds c.fields.f) c.kinds-kinds.ensures, c.at.ensures) in
    further c.args.out.now.items c.fields.out.items c.write_field.new.out.items _ _ _
    (subst (λ t. Leaves c.args.out.now.items c.fields.out.items (flat_map (field_text c.args.set.now.kinds c.args.set.now.elements) (enumerate_from 0 c.args.set.now.kinds)) t) (numbered-more (field_text c.args.set.now.kinds c.args.set.now.elements) c.args.set.now.kinds c.fields.f c.at.result.now at) c.fields.invariant)
    c.in_ok-write_field.ensures.ok
