use Rattle.std.proofs.Common.{◌∙◌, ap, subst}
use Rattle.set_model.specs.Key.{key_fits}
use Rattle.pipapo_image.specs.Image.{IsImage}
use Rattle.pipapo_image.proofs.ImageUse.{key-of, key-long, all-long}
use Rattle.pipapo_image.proofs.NarrowLaws.{holding-leads}
use Rattle.pipapo_image.proofs.ShapeLaws.{image-shaped}
use Rattle.pipapo_image.proofs.image.SetImage.holder_place.Goals as goal

pub is_key_narrow-requires-clause-shaped : goal.is_key_narrow-requires-clause-shaped
is_key_narrow-requires-clause-shaped c = image-shaped c.self.inside.kinds c.self.inside.elements c.self.inside.index c.self.invariant

pub is_key_narrow-requires-clause-key : goal.is_key_narrow-requires-clause-key
is_key_narrow-requires-clause-key c =
    key-of c.self.inside.kinds c.self.inside.elements c.self.inside.index c.args.key.now c.self.invariant
    (ap (λ s. key_fits s.kinds c.args.key.now) c.self.view_is ∙ c.requires)

pub first_among-requires : goal.first_among-requires
first_among-requires c =
    let s = c.args.self.now in
    let i : IsImage s.kinds s.elements c.self.inside.index = subst (λ z. IsImage z.kinds z.elements c.self.inside.index) c.self.view_is c.self.invariant in
    holding-leads s c.args.key.now c.args.now c.is_key_narrow.new.row.bits i.some (key-long s.kinds c.args.key.now c.requires) (all-long s.kinds s.elements i.fit)
    (c.is_key_narrow.ensures.row c.if-is_key_narrow.true s.kinds s.elements i.tables)
