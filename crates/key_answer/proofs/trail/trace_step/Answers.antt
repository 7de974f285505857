use Rattle.std.proofs.Common.{subst}
use Rattle.set_model.specs.Runnable.{IsRunnableStep}
use Rattle.packet_pool.proofs.RunLaws.{step_within, step_fits}
use Rattle.key_answer.proofs.trail.trace_step.Goals as goal

pub add-requires-clause-fits : goal.add-requires-clause-fits
add-requires-clause-fits g c =
    let asked = subst (IsRunnableStep c.args.control.now.schema) c.in-Some.ensures.some c.requires.runnable in
    step_fits c.args.control.now.schema c.args.control.now.work c.in-Some.addition.set asked.0 c.in-Some.addition.element.now.parts c.known.ensures.open_sets asked.1 asked.2
