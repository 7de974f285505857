use Rattle.std.proofs.Common.{length, ◌<◌, rules}
use Rattle.packet_pool.specs.Running.{HasBroken}
use Rattle.packet_pool.proofs.RunLaws.{has_next, broken}
use Rattle.packet_pool.proofs.steps.run_steps.Goals as goal

pub do_step-requires-clause-number : goal.do_step-requires-clause-number
do_step-requires-clause-number g c κs within =
    has_next c.args.keep_going c.args.steps.now c.loop-step.step-index c.args.control.now c.loop-step.control c.loop-step.failed c.loop-step.events c.requires.numbers c.loop-step.invariant

pub returns-in_err-do_step-clause-err : goal.returns-in_err-do_step-clause-err
returns-in_err-do_step-clause-err g c =
    let i = c.loop-step.step-index in let steps = c.args.steps.now in let within : i < length steps = search rules in
    let b : HasBroken c.args.keep_going steps c.args.control.now c.do_step.new.control =
    broken c.args.keep_going steps i c.step-item.result c.args.control.now c.loop-step.control c.do_step.new.control c.loop-step.failed c.loop-step.events within (search rules) c.loop-step.invariant c.in_err-do_step.ensures.err in
    search rules
