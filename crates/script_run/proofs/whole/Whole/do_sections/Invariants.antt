use Rattle.std.proofs.Common.{◌≡◌, [], false, take}
use Rattle.set_model.specs.Control.{mode_of, history}
use Rattle.packet_pool.specs.Running.{run, StandsAt}
use Rattle.script_run.proofs.whole.Whole.do_sections.Given as goal

-- the sections so far are done
abbrev pub invariant-sections : goal.invariant-sections
invariant-sections g l = record {
  stands : StandsAt [] (history (mode_of l.keep_going) l.initial.self.control.schema (take l.steps-index l.steps-items)) (run l.self.control false l.self.events);
  schema_is : l.self.control.schema ≡ l.initial.self.control.schema;
}
