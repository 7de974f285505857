use Rattle.std.proofs.Common.{◌≤◌, length, subst}
use Rattle.set_model.specs.SetState.{rules_limit}
use Rattle.pipapo_image.proofs.FewLaws.{few_elements}
use Rattle.pipapo_image.proofs.image.SetImage.elements.Goals as goal

pub returns-clause-few : goal.returns-clause-few
returns-clause-few c =
    subst (λ s. length s.elements ≤ rules_limit) c.self.view_is (few_elements c.self.inside.kinds c.self.inside.elements c.self.inside.index c.self.invariant)
