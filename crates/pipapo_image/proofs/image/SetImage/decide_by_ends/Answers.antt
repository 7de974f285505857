use Rattle.std.proofs.Common.{rules}
use Rattle.pipapo_image.proofs.AddLaws.{decision_at}
use Rattle.pipapo_image.proofs.image.SetImage.decide_by_ends.Goals as goal

pub returns-in-Some : goal.returns-in-Some
returns-in-Some c =
    decision_at c.args.self.now c.args.element.now c.args.now c.args.full c.in-Some.i c.decide_at.result (search (rules, c.start_place.ensures.value)) (search (rules, c.decide_at.ensures))
