use Rattle.std.proofs.Common.{◌≡◌, sym, ◌∙◌, ap, subst, true, false}
use Rattle.std.specs.Prelude.{All}
use Rattle.set_model.specs.Key.{parts_fit}
use Rattle.pipapo_image.proofs.ExactLaws.{exact-nowhere, exact-unfit, exact-first}
use Rattle.pipapo_image.proofs.image.SetImage.exact_at.Goals as goal

pub returns-then-not-parts_fit : goal.returns-then-not-parts_fit
returns-then-not-parts_fit c =
    let un : parts_fit c.self.inside.kinds c.args.parts.now ≡ false = sym c.if-not-parts_fit.ensures in
    exact-unfit c.args.self.now c.args.parts.now c.args.now (subst (λ s. All (λ e. parts_fit s.kinds e.parts ≡ true) s.elements) c.self.view_is c.self.invariant.fit)
    (ap (λ s. parts_fit s.kinds c.args.parts.now) (sym c.self.view_is) ∙ un)

pub start_place-requires : goal.start_place-requires
start_place-requires c = ap (λ s. parts_fit s.kinds c.args.parts.now) (sym c.self.view_is) ∙ sym c.if-not-parts_fit.ensures

pub exact_reached-requires : goal.exact_reached-requires
exact_reached-requires c = ap (λ s. parts_fit s.kinds c.args.parts.now) (sym c.self.view_is) ∙ sym c.if-not-parts_fit.ensures

pub returns-in-Some : goal.returns-in-Some
returns-in-Some c =
    let fit : parts_fit c.args.self.now.kinds c.args.parts.now ≡ true = ap (λ s. parts_fit s.kinds c.args.parts.now) (sym c.self.view_is) ∙ sym c.if-not-parts_fit.ensures in
    exact-first c.args.self.now c.args.parts.now c.args.now c.in-Some.i fit (sym c.in-Some.is ∙ c.start_place.ensures.value) (sym c.has_parts.ensures ∙ c.if-has_parts.true)

pub returns-in-None : goal.returns-in-None
returns-in-None c =
    let fit : parts_fit c.args.self.now.kinds c.args.parts.now ≡ true = ap (λ s. parts_fit s.kinds c.args.parts.now) (sym c.self.view_is) ∙ sym c.if-not-parts_fit.ensures in
    exact-nowhere c.args.self.now c.args.parts.now c.args.now fit (sym c.in-None.is ∙ c.start_place.ensures.value)
