use Rattle.std.proofs.Common.{◌≡◌, sym, ◌∙◌, ap, subst, List, ℕ, Bool, ◌++◌}
use Rattle.set_model.specs.Text.{line_feed}
use Rattle.set_report.specs.DumpText.{bitmap_text, run_line}
use Rattle.text_pieces.specs.Appends.{AppendsPart}
use Rattle.text_pieces.proofs.PartLaws.{on_err}
use Rattle.text_pieces.proofs.TwoParts.{first_part, second_part, err-with}
use Rattle.set_report.proofs.DumpLines.{run_head, run-parts}
use Rattle.set_report.proofs.dump.buckets.write_run.Goals as goal

-- the line by the number as it was written
line : (g n from to : ℕ) (bits : List Bool) → n ≡ g → run_head n from to ++ (bitmap_text bits ++ line_feed) ≡ run_line g (record { from = from; to = to; bitmap = bits })
line g n from to bits e = ap (λ m. run_head m from to ++ (bitmap_text bits ++ line_feed)) e ∙ sym (run-parts g from to bits)

pub returns-in_err-append_pieces-clause-err : goal.returns-in_err-append_pieces-clause-err
returns-in_err-append_pieces-clause-err c =
    on_err c.from_residual.result (subst (λ t. AppendsPart c.args.out.now.items c.append_pieces.new.out.items t) (line c.args.g c.from.result c.args.from c.args.to c.args.row.now.bits c.from.ensures)
    (first_part c.args.out.now.items c.append_pieces.new.out.items (run_head c.from.result c.args.from c.args.to) (bitmap_text c.args.row.now.bits ++ line_feed) c.in_err-append_pieces.ensures.err))

pub returns-clause-err : goal.returns-clause-err
returns-clause-err c =
    err-with c.write_bitmap_to_end.result (λ h. subst (λ t. AppendsPart c.args.out.now.items c.write_bitmap_to_end.new.out.items t) (line c.args.g c.from.result c.args.from c.args.to c.args.row.now.bits c.from.ensures)
    (second_part c.args.out.now.items c.append_pieces.new.out.items c.write_bitmap_to_end.new.out.items (run_head c.from.result c.args.from c.args.to) (bitmap_text c.args.row.now.bits ++ line_feed) c.in_ok-append_pieces.ensures.ok h))
    c.write_bitmap_to_end.ensures.err
