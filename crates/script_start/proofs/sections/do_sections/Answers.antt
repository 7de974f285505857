use Rattle.std.proofs.Common.{◌∙◌, false}
use Rattle.set_model.specs.Runnable.{EndsClosed}
use Rattle.script_laws.proofs.Lists.{of-place}
use Rattle.script_laws.proofs.RunLaws.{next_stands}
use Rattle.script_start.proofs.sections.do_sections.Goals as goal

pub sections-preserved : goal.sections-preserved
sections-preserved c = let told = c.in_ok-do_section.ensures in record {
  stands = next_stands false c.args.control.now.schema c.as_slice-steps-items.result.now c.sections.steps-index c.steps-item.result c.sections.control c.do_section.new.control c.sections.events told.0 c.do_section.new.events
      c.sections-test.true c.steps-item.is
      (of-place EndsClosed c.as_slice-steps-items.result.now c.args.sections.now c.sections.steps-index c.steps-item.result c.as_slice-steps-items.ensures c.sections-test.true c.steps-item.is c.requires.closed)
      c.sections.invariant.stands told.1 told.2;
  start = (told.1.goes_on.of_is ∙ c.sections.invariant.start.0, told.1.goes_on.schema_is ∙ c.sections.invariant.start.1, told.1.goes_on.readers_is ∙ c.sections.invariant.start.2);
}
