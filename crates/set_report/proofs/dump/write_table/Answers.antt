use Rattle.set_report.specs.DumpText.{heading_text}
use Rattle.set_report.specs.DumpBuckets.{all_buckets_text}
use Rattle.text_pieces.proofs.PartLaws.{on_err}
use Rattle.text_pieces.proofs.TwoParts.{first_part, second_part, err-with}
use Rattle.set_report.proofs.dump.write_table.Goals as goal

pub returns-in_err-write_heading-clause-err : goal.returns-in_err-write_heading-clause-err
returns-in_err-write_heading-clause-err c =
    on_err c.from_residual.result (first_part c.args.out.now.items c.write_heading.new.out.items (heading_text c.args.f c.args.kind c.args.table.now.width c.args.table.now.rules) (all_buckets_text c.args.table.now) c.in_err-write_heading.ensures.err)

pub returns-clause-err : goal.returns-clause-err
returns-clause-err c =
    err-with c.write_buckets.result (λ h. second_part c.args.out.now.items c.write_heading.new.out.items c.write_buckets.new.out.items (heading_text c.args.f c.args.kind c.args.table.now.width c.args.table.now.rules) (all_buckets_text c.args.table.now) c.in_ok-write_heading.ensures.ok h) c.write_buckets.ensures.err
