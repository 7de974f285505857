use Rattle.std.proofs.Common.{take, false, []}
use Rattle.set_model.specs.Control.{mode_of}
use Rattle.packet_pool.specs.Running.{run}
use Rattle.key_answer.specs.Tracing.{Traces}
use Rattle.key_answer.proofs.trail.trace_steps.Given as goal

-- the steps so far are done
abbrev pub invariant-steps : goal.invariant-steps
invariant-steps g l = Traces (mode_of l.keep_going) (take l.step-index l.steps) (run l.initial.control false []) (run l.control l.failed l.events) l.initial.lines l.lines
