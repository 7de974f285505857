use Rattle.std.proofs.Common.{List, Ok, subst}
use Rattle.set_model.specs.SetState.{removed}
use Rattle.set_model.specs.declared.kind.Interval.{Interval}
use Rattle.set_space.specs.Answers.{IsDestruction}
use Rattle.set_space.specs.Open.{IsChange}
use Rattle.c_handles.proofs.changes.destroy_in.Goals as goal

pub returns-in-Ok-destroy-clause-ok : goal.returns-in-Ok-destroy-clause-ok
returns-in-Ok-destroy-clause-ok c = (
  subst (λ (ps : List Interval). IsChange (λ s t. IsDestruction (removed s ps c.args.now) (Ok c.in-Ok-destroy.done) s t) c.args.control.now.work c.args.set c.destroy.new.self.work) c.in-Ok.ensures.parts c.in-Ok-destroy.ensures.change,
  c.in-Ok-destroy.ensures.others,
  c.in-Ok.ensures.element,
)
