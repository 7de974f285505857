use Rattle.std.proofs.Common.{subst, codes, ◌++◌, flat_map, Some}
use Rattle.std.specs.List.{enumerate_from}
use Rattle.set_model.specs.Text.{line_feed, set_text}
use Rattle.set_report.specs.DumpText.{field_text}
use Rattle.text_pieces.specs.Appends.{AppendsPart}
use Rattle.text_pieces.proofs.PartLaws.{on_err}
use Rattle.text_pieces.proofs.TwoParts.{first_part, second_part, err-with}
use Rattle.set_report.proofs.DumpLines.{set-parts}
use Rattle.set_report.proofs.dump.write_tables.Goals as goal

pub returns-in_err-append_pieces-clause-err : goal.returns-in_err-append_pieces-clause-err
returns-in_err-append_pieces-clause-err c =
    on_err c.from_residual.result (subst (λ t. AppendsPart c.args.out.now.items c.append_pieces.new.out.items t) (set-parts c.args.declared.now c.args.set.now)
    (first_part c.args.out.now.items c.append_pieces.new.out.items (codes "set " ++ (set_text (Some c.args.declared.now) ++ line_feed)) (flat_map (field_text c.args.set.now.kinds c.args.set.now.elements) (enumerate_from 0 c.args.set.now.kinds)) c.in_err-append_pieces.ensures.err))

pub returns-clause-err : goal.returns-clause-err
returns-clause-err c =
    err-with c.write_fields.result (λ h. subst (λ t. AppendsPart c.args.out.now.items c.write_fields.new.out.items t) (set-parts c.args.declared.now c.args.set.now)
    (second_part c.args.out.now.items c.append_pieces.new.out.items c.write_fields.new.out.items (codes "set " ++ (set_text (Some c.args.declared.now) ++ line_feed)) (flat_map (field_text c.args.set.now.kinds c.args.set.now.elements) (enumerate_from 0 c.args.set.now.kinds)) c.in_ok-append_pieces.ensures.ok h)) c.write_fields.ensures.err
