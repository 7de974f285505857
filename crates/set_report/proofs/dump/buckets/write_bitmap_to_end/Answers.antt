use Rattle.set_model.specs.Text.{line_feed}
use Rattle.set_report.specs.DumpText.{bitmap_text}
use Rattle.text_pieces.proofs.PartLaws.{on_err}
use Rattle.text_pieces.proofs.TwoParts.{first_part}
use Rattle.set_report.proofs.dump.buckets.write_bitmap_to_end.Goals as goal

pub returns-in_err-write_bitmap-clause-err : goal.returns-in_err-write_bitmap-clause-err
returns-in_err-write_bitmap-clause-err c =
    on_err c.from_residual.result (first_part c.args.out.now.items c.write_bitmap.new.out.items (bitmap_text c.args.row.now.bits) line_feed c.in_err-write_bitmap.ensures.err)
