use Rattle.std.proofs.Common.{take, false, []}
use Rattle.set_model.specs.Control.{mode_of, section}
use Rattle.packet_pool.specs.Running.{run, GoesOn}
use Rattle.packet_pool.proofs.steps.run_steps.Given as goal

-- the steps so far are done
abbrev pub invariant-loop-step : goal.invariant-loop-step
invariant-loop-step g l = GoesOn (λ c. section (mode_of l.keep_going) c (take l.step-index l.steps)) (run l.initial.control false []) (run l.control l.failed l.events)
