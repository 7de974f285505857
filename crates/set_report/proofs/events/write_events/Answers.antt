use Rattle.std.proofs.Common.{rules, subst, ◌++◌}
use Rattle.std.proofs.lemmas.List.{get_or_default}
use Rattle.set_model.specs.Text.{event_text}
use Rattle.text_pieces.specs.Appends.{AppendsPart}
use Rattle.text_pieces.proofs.PartLaws.{on_err, item_part}
use Rattle.set_report.specs.Remarks.{told_text}
use Rattle.set_report.proofs.events.write_events.Goals as goal

pub returns-in_err-write_behind-clause-err : goal.returns-in_err-write_behind-clause-err
returns-in_err-write_behind-clause-err c =
    on_err c.from_residual.result (subst (λ es. AppendsPart c.args.out.now.items c.write_behind.new.out.items (told_text c.args.prefix.now c.args.schema.now es)) c.as_slice-event-items.ensures
    (item_part (λ event. c.args.prefix.now ++ event_text c.args.schema.now event) c.as_slice-event-items.result.now c.loop-event.event-index _ c.args.out.now.items c.loop-event.out.items c.write_behind.new.out.items
    c.loop-event-test.true (search (rules, get_or_default, c.loop-event-test.true)) c.loop-event.invariant c.in_err-write_behind.ensures.err))
