use Rattle.std.proofs.Common.{sym, subst}
use Rattle.pipapo_image.specs.Image.{IsImage}
use Rattle.pipapo_image.proofs.ImageGrowth.{image-kept}
use Rattle.pipapo_image.proofs.image.SetImage.settle.Goals as goal

pub invariant_of-self : goal.invariant_of-self
invariant_of-self c = image-kept c.self.inside.kinds c.self.inside.elements c.self.inside.index c.settle.new.self c.self.invariant c.settle.ensures

pub invariant_of-self-in_err-settle-2 : goal.invariant_of-self-in_err-settle-2
invariant_of-self-in_err-settle-2 c =
    subst (λ z. IsImage c.self.inside.kinds z c.settle.new.self) (sym c.settle-2.ensures)
    (image-kept c.self.inside.kinds c.self.inside.elements c.self.inside.index c.settle.new.self c.self.invariant c.settle.ensures)

pub invariant_of-self-2 : goal.invariant_of-self-2
invariant_of-self-2 c =
    subst (λ z. IsImage c.self.inside.kinds z c.settle.new.self) (sym c.settle-2.ensures)
    (image-kept c.self.inside.kinds c.self.inside.elements c.self.inside.index c.settle.new.self c.self.invariant c.settle.ensures)
