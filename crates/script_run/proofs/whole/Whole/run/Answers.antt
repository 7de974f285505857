use Rattle.std.proofs.Common.{[], List, subst, false}
use Rattle.set_model.specs.declared.script.SetDecl.{SetDecl}
use Rattle.set_model.specs.Control.{history, mode_of}
use Rattle.packet_pool.specs.Running.{StandsAt, run}
use Rattle.script_laws.proofs.RunLaws.{events_declared, sets_declared}
use Rattle.script_run.proofs.whole.Whole.run.Goals as goal

pub returns-clause-named : goal.returns-clause-named
returns-clause-named g c =
    let new = c.do_sections.new.self in
    events_declared (mode_of c.args.keep_going) c.args.script.now.schema c.args.script.now.sections new.control new.events
    (subst (λ (z : List SetDecl). StandsAt [] (history (mode_of c.args.keep_going) z c.args.script.now.sections) (run new.control false new.events)) c.in_ok-whole.ensures.schema c.in_ok-do_sections.ensures.stands)

pub returns-clause-sets : goal.returns-clause-sets
returns-clause-sets g c =
    let new = c.do_sections.new.self in
    sets_declared (mode_of c.args.keep_going) c.args.script.now.schema c.args.script.now.sections new.control new.events
    (subst (λ (z : List SetDecl). StandsAt [] (history (mode_of c.args.keep_going) z c.args.script.now.sections) (run new.control false new.events)) c.in_ok-whole.ensures.schema c.in_ok-do_sections.ensures.stands)
