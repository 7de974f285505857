use Rattle.std.proofs.Common.{map, ap, not, refl, sym, List, ◌++◌, ◌∙◌, ◌||◌}
use Rattle.std.specs.List.{list_any}
use Rattle.std.proofs.lemmas.Option.{slice_get_within}
use Rattle.key_answer.specs.Origin.{lines_of}
use Rattle.set_model.specs.declared.report.Event.{Event}
use Rattle.std.specs.String.{string_bytes}
use Rattle.set_model.specs.Control.{mode_of, is_refusal}
use Rattle.script_laws.specs.declared.refusals.Refusal.{Refusal}
use Rattle.script_laws.specs.Reports.{refusals_in}
use Rattle.key_answer.proofs.AnswerLaws.{gives}
use Rattle.key_answer.proofs.answer.answer_to.Goals as goal

pub returns-clause-answer : goal.returns-clause-answer
returns-clause-answer g c =
    let t = c.in_ok-trace.trace in
    gives (mode_of c.args.keep_going) c.args.script (map string_bytes c.args.words.now) c.args.moment c.args.asked c.unwrap_or.result t.control t.events (lines_of t.lines c.args.asked.set) c.new-output.result.text.items c.write_all.new.out.items c.in_ok-found.found c.fails.result
    c.unwrap_or.ensures c.requires.key c.in_ok-trace.ensures.ends (c.in_ok-trace.ensures.lines c.args.asked.set (slice_get_within c.args.script.schema c.args.asked.set c.requires.fits.set c.requires.fits.declared)) c.in_ok-trace.ensures.schema c.new-output.ensures.text c.in_ok-found.ensures.text c.in_ok-found.ensures.found (c.fails.ensures ∙ ap (λ (z : List Event). list_any is_refusal z || not c.in_ok-found.found) c.as_slice-events.ensures)

pub returns-clause-report : goal.returns-clause-report
returns-clause-report g c = record {
  refusals_are =
      c.in_ok-add_refusals.ensures
      ∙ ap (λ (rs : List Refusal). rs ++ refusals_in 0 c.as_slice-events.result.now) c.new-output.ensures.refusals
      ∙ ap (refusals_in 0) (c.as_slice-events.ensures ∙ sym c.in_ok-trace.ensures.ends.told);
  script_is = refl;
}
