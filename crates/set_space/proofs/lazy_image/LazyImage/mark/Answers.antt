use Rattle.std.proofs.Common.{◌≡◌, ◌∙◌, ap, length, arith}
use Rattle.std.specs.Prelude.{unwrap_or}
use Rattle.set_model.specs.SetState.{State, purged, without_at}
use Rattle.set_space.specs.Staying.{staying}
use Rattle.set_space.proofs.LazyLaws.{marked}
use Rattle.set_space.proofs.lazy_image.LazyImage.mark.Goals as goal

pub invariant_of-self-2 : goal.invariant_of-self-2
invariant_of-self-2 c =
    let left : purged c.renew.new.self c.unwrap_or.result ≡ staying c.args.self.now.passed (without_at c.args.self.now.image c.args.i) =
    ap (purged c.renew.new.self) c.unwrap_or.ensures ∙ ap (λ s. purged s (unwrap_or c.args.self.now.passed 0)) c.in_ok-renew.ensures.ok
    ∙ marked c.args.self.now.passed c.args.self.now.image c.args.i c.requires.within c.requires.live in
    let same = ap (λ (s : State). length s.elements) left in
    let one = c.requires.falls in
    record { counted = omega (arith, same, one) }

pub returns-clause-left : goal.returns-clause-left
returns-clause-left c =
    ap (purged c.renew.new.self) c.unwrap_or.ensures ∙ ap (λ s. purged s (unwrap_or c.args.self.now.passed 0)) c.in_ok-renew.ensures.ok
    ∙ marked c.args.self.now.passed c.args.self.now.image c.args.i c.requires.within c.requires.live
