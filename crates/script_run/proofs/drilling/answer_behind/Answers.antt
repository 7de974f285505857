use Rattle.std.proofs.Common.{refl, subst, true, List, length}
use Rattle.set_model.specs.declared.script.Step.{Step}
use Rattle.packet_pool.specs.Running.{Ran}
use Rattle.script_run.proofs.DrillLaws.{drilled-behind}
use Rattle.script_run.proofs.drilling.answer_behind.Goals as goal

pub returns : goal.returns
returns g c =
    drilled-behind c.args.steps.now c.args.packets.now (length c.run_section-2.new.readers.items) c.args.control.now c.run_section-2.new.control c.run_section-3.new.control
    c.in_ok-events.field-0.events c.in_ok-lines.field-0.events c.in_ok-lines.field-0.lines
    c.requires.begun.0 c.requires.begun.1 c.requires.closed c.in_ok-events.ensures.steps
    (subst (λ (z : List Step). Ran true z c.run_section-2.new.control c.run_section-3.new.control c.in_ok-lines.field-0.events) c.new-nothing.ensures c.in_ok-lines.ensures.steps)
    c.in_ok-lines.ensures.lines _ refl refl
