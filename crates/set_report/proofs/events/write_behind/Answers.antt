use Rattle.set_model.specs.Text.{event_text}
use Rattle.text_pieces.proofs.PartLaws.{on_err}
use Rattle.text_pieces.proofs.TwoParts.{first_part}
use Rattle.set_report.proofs.events.write_behind.Goals as goal

pub returns-in_err-append-clause-err : goal.returns-in_err-append-clause-err
returns-in_err-append-clause-err c =
    on_err c.from_residual.result (first_part c.args.out.now.items c.append.new.out.items c.args.prefix.now (event_text c.args.schema.now c.args.event.now) c.in_err-append.ensures.err)
