use Rattle.std.proofs.Common.{◌≡◌, ◌+◌, ◌∙◌, ap, [], List, All, subst, sym, take, false}
use Rattle.std.proofs.lemmas.List.{take_all}
use Rattle.set_model.specs.declared.script.Step.{Step}
use Rattle.set_model.specs.declared.script.SetDecl.{SetDecl}
use Rattle.set_model.specs.Control.{mode_of}
use Rattle.set_model.specs.Runnable.{EndsClosed, IsRunnableStep}
use Rattle.script_laws.proofs.Lists.{of-place}
use Rattle.script_laws.proofs.RunLaws.{events_declared, sets_declared}
use Rattle.key_answer.specs.Sections.{IsTraceOf}
use Rattle.key_answer.proofs.trace.trace_script.Goals as goal

pub sections-init : goal.sections-init
sections-init g c = c.in_ok-trace.ensures (mode_of c.args.keep_going)

pub do_section-requires-clause-steps : goal.do_section-requires-clause-steps
do_section-requires-clause-steps g c κs within =
    subst (λ (s : List SetDecl). All (IsRunnableStep s) c.steps-item.result) (sym c.sections.invariant.schema_is)
    (of-place (All (IsRunnableStep c.args.script.now.schema)) c.as_slice-steps-items.result.now c.args.script.now.sections c.sections.steps-index c.steps-item.result c.as_slice-steps-items.ensures c.sections-test.true c.steps-item.is c.requires.script.steps)

pub do_section-requires-clause-closed : goal.do_section-requires-clause-closed
do_section-requires-clause-closed g c κs within =
    of-place EndsClosed c.as_slice-steps-items.result.now c.args.script.now.sections c.sections.steps-index c.steps-item.result c.as_slice-steps-items.ensures c.sections-test.true c.steps-item.is c.requires.script.closed

pub sections-preserved : goal.sections-preserved
sections-preserved g c =
    let same = c.sections.invariant.schema_is in
    let done = c.as_slice-steps-items.result.now in
    let next = c.in_ok-do_section.ensures done c.sections.steps-index c.sections-test.true c.steps-item.is in
    subst (λ (s : List SetDecl). IsTraceOf (mode_of c.args.keep_going) s (take c.sections.steps-index done) c.sections.trace → IsTraceOf (mode_of c.args.keep_going) s (take (c.sections.steps-index + 1) done) c.do_section.new.self) same next c.sections.invariant

pub returns : goal.returns
returns g c =
    let done = c.as_slice-steps-items.result.now in
    let all : take c.sections.steps-index done ≡ c.args.script.now.sections = take_all c.sections.steps-index done c.sections-test.false ∙ c.as_slice-steps-items.ensures in
    let mode = mode_of c.args.keep_going in
    let schema = c.args.script.now.schema in
    let trace = subst (λ (z : List (List Step)). IsTraceOf mode schema z c.sections.trace) all c.sections.invariant in record {
      ends = trace.stands;
      lines = trace.lines_are;
      schema = trace.schema_is;
      named = events_declared mode schema c.args.script.now.sections c.sections.trace.control c.sections.trace.events trace.stands;
      sets = sets_declared mode schema c.args.script.now.sections c.sections.trace.control c.sections.trace.events trace.stands;
    }
