use Rattle.std.proofs.Common.{◌<◌, length, subst, sym}
use Rattle.set_model.specs.Control.{Generation}
use Rattle.key_answer.proofs.trace.Trace.image.Goals as goal

pub image_of-requires : goal.image_of-requires
image_of-requires c = subst (λ (g : Generation). c.args.set < length g.sets) (sym c.generation.ensures) c.requires
