use Rattle.std.proofs.Common.{◌∙◌}
use Rattle.set_model.specs.Runnable.{EndsClosed}
use Rattle.script_laws.proofs.Lists.{of-place}
use Rattle.script_laws.proofs.RunLaws.{next_stands}
use Rattle.script_run.proofs.whole.Whole.do_sections.Goals as goal

pub sections-preserved : goal.sections-preserved
sections-preserved g c = let done = c.in_ok-do_section.ensures in record {
  stands = next_stands c.args.keep_going c.args.self.now.control.schema c.as_slice-steps-items.result.now c.sections.steps-index c.steps-item.result c.sections.self.control c.do_section.new.self.control c.sections.self.events done.0 c.do_section.new.self.events
      c.sections-test.true c.steps-item.is
      (of-place EndsClosed c.as_slice-steps-items.result.now c.args.sections.now c.sections.steps-index c.steps-item.result c.as_slice-steps-items.ensures c.sections-test.true c.steps-item.is c.requires.closed)
      c.sections.invariant.stands done.1 done.2;
  schema_is = done.1.goes_on.schema_is ∙ c.sections.invariant.schema_is;
}
