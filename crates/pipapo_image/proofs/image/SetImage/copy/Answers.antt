use Rattle.std.proofs.Common.{sym, subst}
use Rattle.pipapo_image.specs.Image.{IsImage}
use Rattle.pipapo_image.proofs.ImageGrowth.{image-kept}
use Rattle.pipapo_image.proofs.image.SetImage.copy.Goals as goal

pub invariant_of-result : goal.invariant_of-result
invariant_of-result c =
    let s = c.self.inside in
    let other = c.in_ok-copy-2.field-0 in
    let same = image-kept s.kinds s.elements s.index other c.self.invariant c.in_ok-copy-2.ensures in
    let named = subst (λ z. IsImage z s.elements other) (sym c.in_ok-copy.ensures) same in
    subst (λ z. IsImage c.in_ok-copy.field-0 z other) (sym c.in_ok-copy-3.ensures) named
