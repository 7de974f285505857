use Rattle.std.proofs.Common.{◌∙◌, ap}
use Rattle.set_model.specs.Key.{key_fits, parts_fit}
use Rattle.pipapo_image.proofs.ImageUse.{key-of}
use Rattle.pipapo_image.proofs.ShapeLaws.{image-shaped}
use Rattle.pipapo_image.proofs.SharingRows.{intervals-of}
use Rattle.pipapo_image.proofs.image.SetImage.index.Goals as goal

pub returns-clause-shaped : goal.returns-clause-shaped
returns-clause-shaped c = image-shaped c.self.inside.kinds c.self.inside.elements c.self.inside.index c.self.invariant

pub returns-clause-keys : goal.returns-clause-keys
returns-clause-keys c = λ key fits.
    key-of c.self.inside.kinds c.self.inside.elements c.self.inside.index key c.self.invariant (ap (λ s. key_fits s.kinds key) c.self.view_is ∙ fits)

pub returns-clause-intervals : goal.returns-clause-intervals
returns-clause-intervals c = λ parts fit.
    intervals-of c.self.inside.kinds c.self.inside.elements c.self.inside.index parts c.self.invariant (ap (λ s. parts_fit s.kinds parts) c.self.view_is ∙ fit)
