use Rattle.std.proofs.Common.{subst}
use Rattle.pipapo_image.specs.Image.Deciding.{add_if}
use Rattle.pipapo_image.specs.Image.Decision.{IsDecision}
use Rattle.set_space.proofs.LazyLaws.{lazy_decision}
use Rattle.set_space.proofs.lazy_image.LazyImage.foresee.Goals as goal

pub returns : goal.returns
returns c =
    let image = c.args.self.now.image in
    let e = c.args.element.now in
    let full = c.is_full.result in
    lazy_decision c.args.self.now.passed image e c.args.now full c.decide_if.result c.requires.stays c.is_full.ensures.full
    (subst (λ n. IsDecision image e (add_if full image e n) c.decide_if.result) c.moment-moment.ensures c.decide_if.ensures)
