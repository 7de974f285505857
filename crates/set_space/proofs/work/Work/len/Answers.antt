use Rattle.std.proofs.Common.{◌∙◌}
use Rattle.std.specs.Arc.{arc_value}
use Rattle.set_space.proofs.SetsLaws.{work-long}
use Rattle.set_space.proofs.work.Work.len.Goals as goal

pub returns : goal.returns
returns c = c.len.ensures ∙ work-long (arc_value c.self.inside.base) c.deref.result.now c.self.inside.sets.items c.args.self.now c.self.view_is c.self.invariant.0 c.deref.ensures
