use Rattle.std.proofs.Common.{◌≡◌, sym, ◌∙◌, ap, subst, true}
use Rattle.std.specs.Prelude.{position}
use Rattle.set_model.specs.Key.{parts_fit}
use Rattle.set_model.specs.SetState.{sharing_place, is_sharing}
use Rattle.pipapo_image.specs.Image.{IsImage}
use Rattle.pipapo_image.specs.Image.Among.{LeadsTo}
use Rattle.pipapo_image.proofs.NarrowLaws.{sharing-leads}
use Rattle.pipapo_image.proofs.ShapeLaws.{image-shaped}
use Rattle.pipapo_image.proofs.Places.{is-sharing-place}
use Rattle.pipapo_image.proofs.SharingRows.{intervals-of}
use Rattle.pipapo_image.proofs.image.SetImage.sharing_place.Goals as goal

pub are_intervals_narrow-requires-clause-shaped : goal.are_intervals_narrow-requires-clause-shaped
are_intervals_narrow-requires-clause-shaped c = image-shaped c.self.inside.kinds c.self.inside.elements c.self.inside.index c.self.invariant

pub are_intervals_narrow-requires-clause-parts : goal.are_intervals_narrow-requires-clause-parts
are_intervals_narrow-requires-clause-parts c =
    intervals-of c.self.inside.kinds c.self.inside.elements c.self.inside.index c.args.parts.now c.self.invariant
    (ap (λ s. parts_fit s.kinds c.args.parts.now) c.self.view_is ∙ c.requires)

pub first_among-requires : goal.first_among-requires
first_among-requires c =
    let s = c.args.self.now in
    let i : IsImage s.kinds s.elements c.self.inside.index = subst (λ z. IsImage z.kinds z.elements c.self.inside.index) c.self.view_is c.self.invariant in
    subst (λ z. LeadsTo s (is_sharing z c.args.now) c.are_intervals_narrow.new.row.bits) (sym c.as_slice.ensures)
    (sharing-leads s c.args.parts.now c.args.now c.are_intervals_narrow.new.row.bits i.some c.requires i.fit (c.are_intervals_narrow.ensures.row c.if-are_intervals_narrow.true s.kinds s.elements i.tables))

pub returns-then-are_intervals_narrow : goal.returns-then-are_intervals_narrow
returns-then-are_intervals_narrow c =
    record {
      value = c.first_among.ensures.value ∙ ap (λ z. position (is_sharing z c.args.now) c.args.self.now.elements) c.as_slice.ensures;
      within = c.first_among.ensures.within;
    }

pub find_sharing-requires-clause-shaped : goal.find_sharing-requires-clause-shaped
find_sharing-requires-clause-shaped c = image-shaped c.self.inside.kinds c.self.inside.elements c.self.inside.index c.self.invariant

pub find_sharing-requires-clause-parts : goal.find_sharing-requires-clause-parts
find_sharing-requires-clause-parts c =
    intervals-of c.self.inside.kinds c.self.inside.elements c.self.inside.index c.args.parts.now c.self.invariant
    (ap (λ s. parts_fit s.kinds c.args.parts.now) c.self.view_is ∙ c.requires)

pub returns : goal.returns
returns c =
    let fit : parts_fit c.self.inside.kinds c.args.parts.now ≡ true = ap (λ s. parts_fit s.kinds c.args.parts.now) c.self.view_is ∙ c.requires in
    is-sharing-place c.args.self.now c.args.parts.now c.args.now c.find_sharing.result
    (c.find_sharing.ensures c.self.inside.kinds c.self.inside.elements c.self.invariant.tables fit c.self.invariant.fit
    ∙ ap (λ s. sharing_place s c.args.parts.now c.args.now) c.self.view_is)
