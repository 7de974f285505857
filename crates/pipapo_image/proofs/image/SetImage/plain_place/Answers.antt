use Rattle.std.proofs.Common.{◌∙◌, ap}
use Rattle.set_model.specs.Key.{key_fits}
use Rattle.set_model.specs.SetState.{place}
use Rattle.pipapo_image.proofs.ImageUse.{key-of, all-long}
use Rattle.pipapo_image.proofs.ShapeLaws.{image-shaped}
use Rattle.pipapo_image.proofs.Places.{is-place}
use Rattle.pipapo_image.proofs.image.SetImage.plain_place.Goals as goal

pub find_plain-requires-clause-shaped : goal.find_plain-requires-clause-shaped
find_plain-requires-clause-shaped c = image-shaped c.self.inside.kinds c.self.inside.elements c.self.inside.index c.self.invariant

pub find_plain-requires-clause-key : goal.find_plain-requires-clause-key
find_plain-requires-clause-key c =
    key-of c.self.inside.kinds c.self.inside.elements c.self.inside.index c.args.key.now c.self.invariant
    (ap (λ s. key_fits s.kinds c.args.key.now) c.self.view_is ∙ c.requires)

pub returns : goal.returns
returns c =
    is-place c.args.self.now c.args.key.now c.args.now c.find_plain.result
    (c.find_plain.ensures c.self.inside.kinds c.self.inside.elements c.self.invariant.tables (all-long c.self.inside.kinds c.self.inside.elements c.self.invariant.fit)
    ∙ ap (λ s. place s c.args.key.now c.args.now) c.self.view_is)
