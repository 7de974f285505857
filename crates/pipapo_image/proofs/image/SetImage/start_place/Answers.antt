use Rattle.std.proofs.Common.{◌≡◌, sym, ◌∙◌, ap, subst, true, take, arith}
use Rattle.set_model.specs.Key.{key_fits, parts_fit, start_key}
use Rattle.pipapo_image.specs.Image.Found.{IsPlace}
use Rattle.pipapo_image.proofs.ImageUse.{parts-long}
use Rattle.pipapo_image.proofs.AddLaws.{start-fits}
use Rattle.pipapo_image.proofs.image.SetImage.start_place.Goals as goal

pub starts-lows-requires : goal.starts-lows-requires
starts-lows-requires c =
    let long = parts-long c.self.inside.kinds c.args.parts.now (ap (λ s. parts_fit s.kinds c.args.parts.now) c.self.view_is ∙ c.requires) in
    omega (arith, c.self.invariant.few_kinds)

pub holder_place-requires : goal.holder_place-requires
holder_place-requires c =
    let key : take c.len.result c.starts-lows.result ≡ start_key c.args.parts.now = ap (λ n. take n c.starts-lows.result) c.len.ensures ∙ c.starts-lows.ensures in
    subst (λ z. key_fits c.args.self.now.kinds z ≡ true) (sym key) (start-fits c.args.self.now.kinds c.args.parts.now c.requires)

pub returns : goal.returns
returns c =
    let key : take c.len.result c.starts-lows.result ≡ start_key c.args.parts.now = ap (λ n. take n c.starts-lows.result) c.len.ensures ∙ c.starts-lows.ensures in
    subst (λ z. IsPlace c.args.self.now z c.args.now c.holder_place.result) key c.holder_place.ensures
