use Rattle.std.proofs.Common.{take, false, []}
use Rattle.set_model.specs.Control.{mode_of, section}
use Rattle.packet_pool.specs.Running.{run, GoesOn}
use Rattle.control_desk.proofs.transaction.try_changes.Given as goal

-- the changes so far are done
abbrev pub invariant-loop-step : goal.invariant-loop-step
invariant-loop-step l = GoesOn (λ c. section (mode_of l.keep_going) c (take l.step-index l.changes)) (run l.initial.control false []) (run l.control l.failed l.refused)
