use Rattle.element_lines.proofs.StepLaws.{one-section, steps-run}
use Rattle.element_lines.proofs.additions.Additions.new.Goals as goal

pub places_in-requires : goal.places_in-requires
places_in-requires c = one-section c.args.script.now c.in_ok-steps.steps c.in_ok-steps.ensures c.requires

pub invariant_of-result : goal.invariant_of-result
invariant_of-result c = steps-run c.args.script.now c.in_ok-copy.field-0 c.in_ok-steps.steps c.in_ok-copy.ensures c.in_ok-steps.ensures c.requires
