use Rattle.std.proofs.Common.{◌≡◌, ap, sym, ◌∙◌, None}
use Rattle.script_start.specs.Refusals.{refusal_in}
use Rattle.script_start.proofs.Done.{has_done, refuses}
use Rattle.script_start.proofs.starting.do_script.Goals as goal

pub returns-in-Some-clause-refused : goal.returns-in-Some-clause-refused
returns-in-Some-clause-refused c =
    refuses c.args.control.now.schema c.args.sections.now c.in-Some.error c.do_sections.new.events (c.in-Some.ensures ∙ ap refusal_in c.as_slice.ensures) c.in_ok-do_sections.ensures.stands.told

pub returns-clause-done : goal.returns-clause-done
returns-clause-done c =
    let none : refusal_in c.do_sections.new.events ≡ None = sym (c.in-None.ensures ∙ ap refusal_in c.as_slice.ensures) in
    has_done c.args.control.now.schema c.args.sections.now c.do_sections.new.control c.do_sections.new.events c.in_ok-do_sections.ensures.start.1 c.requires.closed c.in_ok-do_sections.ensures.stands none
