use Rattle.std.proofs.Common.{rules, Some, Ok}
use Rattle.pipapo_image.proofs.AddLaws.{decision_twin}
use Rattle.pipapo_image.proofs.image.SetImage.decide_apart.Goals as goal

pub returns-in-Some : goal.returns-in-Some
returns-in-Some c =
    decision_twin c.args.self.now c.args.element.now c.args.now c.args.full (Some c.in-Some.i) (Ok c.decide_again.result) (search (rules, c.twin_place.ensures.value)) c.decide_again.ensures
