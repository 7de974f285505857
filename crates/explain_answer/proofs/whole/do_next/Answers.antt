use Rattle.std.proofs.Common.{◌≡◌, ◌∙◌, ◌≤◌, ◌<◌, ◌+◌, ap, sym, subst, All, List, take, length, get_or, Some, slice_get, arith}
use Rattle.std.proofs.lemmas.Result.{on_ok_weaker}
use Rattle.std.proofs.lemmas.Option.{slice_get_within, get_or_from_slice_get}
use Rattle.script_laws.proofs.Lists.{of-item}
use Rattle.set_model.specs.declared.script.SetDecl.{SetDecl}
use Rattle.set_model.specs.Control.{mode_of}
use Rattle.set_model.specs.Runnable.{EndsClosed, IsRunnableStep}
use Rattle.key_answer.specs.Sections.{IsTraceOf}
use Rattle.explain_answer.proofs.RunLaws.{done-past}
use Rattle.explain_answer.proofs.whole.do_next.Goals as goal

pub do_section-requires-clause-steps : goal.do_section-requires-clause-steps
do_section-requires-clause-steps g c κs within =
    let s = c.args.script.now in
    subst (λ (z : List SetDecl). All (IsRunnableStep z) c.at.result.now) (sym c.requires.done.schema_is) (of-item (All (IsRunnableStep s.schema)) s.sections c.args.number c.at.result.now c.requires.script.steps c.at.ensures)

pub do_section-requires-clause-closed : goal.do_section-requires-clause-closed
do_section-requires-clause-closed g c κs within = of-item EndsClosed c.args.script.now.sections c.args.number c.at.result.now c.requires.script.closed c.at.ensures

pub returns : goal.returns
returns g c =
    let s = c.args.script.now in
    let mode = mode_of c.args.keep_going in
    let steps = c.at.result.now in
    let is : steps ≡ get_or s.sections c.args.number steps = sym (get_or_from_slice_get s.sections c.args.number steps steps c.at.ensures) in
    on_ok_weaker c.do_section.result
    (λ next.
    subst (λ (z : List SetDecl). IsTraceOf mode z (take c.args.number s.sections) c.args.trace.now → IsTraceOf mode z (take (c.args.number + 1) s.sections) c.do_section.new.self) c.requires.done.schema_is
    (next s.sections c.args.number (slice_get_within s.sections c.args.number steps c.at.ensures) is) c.requires.done)
    c.do_section.ensures
