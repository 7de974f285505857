use Rattle.std.proofs.Common.{◌∙◌, ap, sym, subst, refl, All, List, length}
use Rattle.set_model.specs.declared.script.SetDecl.{SetDecl}
use Rattle.set_model.specs.Control.{mode_of}
use Rattle.set_report.specs.Writes.{NamesSet}
use Rattle.script_laws.specs.Reports.{refusals_in}
use Rattle.script_laws.proofs.RunLaws.{events_declared}
use Rattle.explain_answer.proofs.RunLaws.{done-all, gives}
use Rattle.explain_answer.proofs.whole.explain.Goals as goal

pub output_of-requires : goal.output_of-requires
output_of-requires g c =
    let mode = mode_of c.args.keep_going in
    let s = c.args.script in
    let t = c.in_ok-trace.trace in
    let d = c.in_ok-trace.ensures.done in
    let h = done-all mode s d.0 t d.1 d.2 in
    subst (λ (z : List SetDecl). All (NamesSet (length z)) t.events) (sym h.schema_is) (events_declared mode s.schema s.sections t.control t.events h.stands)

pub returns-clause-text : goal.returns-clause-text
returns-clause-text g c =
    let mode = mode_of c.args.keep_going in
    let s = c.args.script in
    let t = c.in_ok-trace.trace in
    let d = c.in_ok-trace.ensures.done in
    gives mode s c.args.keys.now t c.in_ok-trace.written.text.items c.in_ok-output.output.text.items c.in_ok-trace.written.lacks c.in_ok-output.output.refused (done-all mode s d.0 t d.1 d.2) c.in_ok-trace.ensures.text c.in_ok-trace.ensures.lacks c.in_ok-output.ensures.text c.in_ok-output.ensures.refused

pub returns-clause-report : goal.returns-clause-report
returns-clause-report g c =
    let d = c.in_ok-trace.ensures.done in
    let h = done-all (mode_of c.args.keep_going) c.args.script d.0 c.in_ok-trace.trace d.1 d.2 in
    record { refusals_are = c.in_ok-output.ensures.refusals ∙ ap (refusals_in 0) (sym h.stands.told); script_is = refl }
