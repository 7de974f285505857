use Rattle.std.proofs.Common.{[], List, subst, sym, false}
use Rattle.set_model.specs.declared.report.Event.{Event}
use Rattle.set_model.specs.Control.{start}
use Rattle.packet_pool.specs.Running.{StandsAt, run}
use Rattle.script_laws.proofs.RunLaws.{start_stands}
use Rattle.script_run.proofs.whole.Whole.new.Goals as goal

pub returns-clause-stands : goal.returns-clause-stands
returns-clause-stands c = let e = c.in_ok-control.ensures.control in
    subst (λ (z : List Event). StandsAt [] (start c.args.schema.now) (run c.in_ok-control.control false z)) (sym c.new.ensures) (start_stands c.args.schema.now c.in_ok-control.control e.2 e.3)
