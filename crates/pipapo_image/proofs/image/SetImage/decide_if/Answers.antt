use Rattle.std.proofs.Common.{sym, ◌∙◌, rules}
use Rattle.pipapo_image.proofs.AddLaws.{decision_by, decision_apart}
use Rattle.pipapo_image.proofs.image.SetImage.decide_if.Goals as goal

pub returns-then-is_by_ends : goal.returns-then-is_by_ends
returns-then-is_by_ends c =
    let s = c.args.self.now in
    decision_by s c.args.element.now c.args.now c.args.full c.decide_by_ends.result (sym c.is_by_ends.ensures ∙ c.if-is_by_ends.true) (search (rules, c.decide_by_ends.ensures))

pub returns-else-is_by_ends : goal.returns-else-is_by_ends
returns-else-is_by_ends c =
    let s = c.args.self.now in
    decision_apart s c.args.element.now c.args.now c.args.full c.decide_apart.result (sym c.is_by_ends.ensures ∙ c.if-is_by_ends.false) (search (rules, c.decide_apart.ensures))
