use Rattle.std.proofs.Common.{rules, ◌++◌, ap, sym, ◌∙◌, subst, All, length, append_assoc, List}
use Rattle.set_model.specs.declared.script.SetDecl.{SetDecl}
use Rattle.set_model.specs.Text.{events_text}
use Rattle.set_report.specs.Writes.{NamesSet}
use Rattle.script_run.proofs.JudgeLaws.{lines-judged}
use Rattle.script_run.proofs.SectionLaws.{told_named}
use Rattle.script_run.proofs.telling.Telling.do_section.Goals as goal

pub write_events-requires : goal.write_events-requires
write_events-requires g c =
    let ran = c.in_ok-section.ensures.steps in
    subst (λ (s : List SetDecl). All (NamesSet (length s)) c.in_ok-section.section.events) (sym (c.schema.ensures ∙ ran.goes_on.schema_is))
    (told_named c.args.keep_going c.args.steps.now c.args.self.now.control c.run_section.new.control c.in_ok-section.section.events c.known.ensures.last c.known.ensures.grown c.known.ensures.open_sets ran)

pub run_section-requires-clause-judge : goal.run_section-requires-clause-judge
run_section-requires-clause-judge g c κs within = c.requires.judge

pub write-requires : goal.write-requires
write-requires g c =
    lines-judged (g.J.Judge.verdict c.args.judge.now) c.args.packets.now c.args.self.now.packets (length c.args.self.now.readers.items) (length c.args.self.now.control.committed) c.run_section.new.control.committed
    c.in_ok-section.section.lines c.in_ok-section.ensures.lines

pub returns : goal.returns
returns g c =
    let ran = c.in_ok-section.ensures.steps in
    let packets = g.J.Teller.packets_text c.args.judge.now in
    let events = c.in_ok-section.section.events in let lines = c.in_ok-section.section.lines in let old = c.args.self.now.output.text.items in record {
      events = events;
      lines = lines;
      ran = ran;
      answers = c.in_ok-section.ensures.lines;
      grown = c.known-2.ensures.grown;
      threads_are = c.in_ok-section.ensures.ready.0;
      ready = c.in_ok-section.ensures.ready.1;
      text = c.in_ok-write.ensures ∙ ap (λ z. z ++ packets lines) c.in_ok-write_events.ensures.ok
          ∙ append_assoc old (events_text c.schema.result.now events) (packets lines)
          ∙ ap (λ s. old ++ (events_text s events ++ packets lines)) (c.schema.ensures ∙ ran.goes_on.schema_is);
      refused = search rules;
      refusals = search rules;
      failed = search rules;
      count = search rules;
    }
