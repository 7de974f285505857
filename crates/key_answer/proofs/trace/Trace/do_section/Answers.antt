use Rattle.std.proofs.Common.{ap, ◌∙◌, ◌<◌, sym, subst, take, length, Ok, [], rules}
use Rattle.std.proofs.lemmas.Result.{on_ok_weaker}
use Rattle.set_model.specs.Control.{mode_of, history}
use Rattle.script_laws.proofs.RunLaws.{next_stands}
use Rattle.key_answer.specs.Origin.{lines_of}
use Rattle.key_answer.proofs.AnswerLaws.{fresh-stands}
use Rattle.key_answer.proofs.TraceLaws.{lines-more}
use Rattle.key_answer.proofs.trace.Trace.do_section.Goals as goal

pub returns : goal.returns
returns g c =
    on_ok_weaker c.add_all.result
    (λ added sections i within is so_far.
    let old = c.args.self.now in
    let schema = old.control.schema in
    let new = c.trace_steps.new.control in
    record {
      stands = next_stands c.args.keep_going schema sections i c.args.steps.now old.control new old.events c.in_ok-told.told c.add_all.new.events within is c.requires.closed so_far.stands c.in_ok-told.ensures.ran added;
      one_each = c.in_ok-told.ensures.one_each ∙ so_far.one_each;
      lines_are = λ set known.
          lines-more (mode_of c.args.keep_going) set schema sections i c.args.steps.now (lines_of old.lines set) (lines_of c.trace_steps.new.lines set) within is
          (so_far.lines_are set known)
          (c.in_ok-told.ensures.lines old.events (history (mode_of c.args.keep_going) schema (take i sections)) (fresh-stands _ old.control old.events so_far.stands) set (subst (λ n. set < n) (sym so_far.one_each) known));
      schema_is = c.in_ok-told.ensures.ran.goes_on.schema_is;
    })
    c.add_all.ensures
