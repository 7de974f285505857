use Rattle.std.proofs.Common.{[], false, take}
use Rattle.set_model.specs.Control.{Strict, history}
use Rattle.packet_pool.specs.Running.{run, StandsAt, IsSameStart}
use Rattle.script_start.proofs.sections.do_sections.Given as goal

-- the sections so far are done
abbrev pub invariant-sections : goal.invariant-sections
invariant-sections l = record {
  stands : StandsAt [] (history Strict l.initial.control.schema (take l.steps-index l.steps-items)) (run l.control false l.events);
  start : IsSameStart l.initial.control l.control;
}
