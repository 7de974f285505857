use Rattle.std.proofs.Common.{◌≡◌, ◌<◌, sym, ◌∙◌, ap, ◌+◌, ◌-◌, length, arith}
use Rattle.set_model.specs.SetState.{State}
use Rattle.pipapo_image.specs.Image.Steps.{without_expired_at}
use Rattle.pipapo_image.proofs.Leaving.{purged_from, one_looked_at}
use Rattle.pipapo_image.proofs.image.SetImage.copy_without_expired.Goals as goal

pub places-preserved : goal.places-preserved
places-preserved c =
    let s = c.args.self.now in
    let n = c.len-count.result in
    let i = n - 1 - c.places.k in
    let long : n ≡ length s.elements = c.len-count.ensures ∙ ap (λ (z : State). length z.elements) c.self.view_is in
    let test : c.places.k < n = c.places-test.true in
    let from : n - c.places.k ≡ i + 1 = omega arith in
    let to : n - (c.places.k + 1) ≡ i = omega arith in
    let within : i < length s.elements = omega arith in
    c.in_ok-remove_expired_at.ensures ∙ ap (λ (z : State). without_expired_at z i c.args.now) (c.places.invariant ∙ ap (λ z. purged_from s c.args.now z) from)
    ∙ one_looked_at s c.args.now i within ∙ ap (λ z. purged_from s c.args.now z) (sym to)
