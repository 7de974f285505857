use Rattle.std.proofs.Common.{◌∙◌, sym, subst, Ok}
use Rattle.pipapo_image.specs.Image.Decision.{IsDecision}
use Rattle.pipapo_image.specs.Image.Deciding.{at_start}
use Rattle.pipapo_image.proofs.image.SetImage.decide_at.Goals as goal

pub returns-then-has_parts : goal.returns-then-has_parts
returns-then-has_parts c =
    let s = c.args.self.now in
    subst (λ t. IsDecision s c.args.element.now (at_start s c.args.i c.args.element.now.expiry t) (Ok c.decide_again.result)) (sym c.if-has_parts.true ∙ c.has_parts.ensures) c.decide_again.ensures
