use Rattle.std.proofs.Common.{rules}
use Rattle.pipapo_image.proofs.AddLaws.{done, refused}
use Rattle.pipapo_image.proofs.image.SetImage.insert.Goals as goal

pub returns-in_err-decision : goal.returns-in_err-decision
returns-in_err-decision c =
    search (
      rules,
      refused c.args.self.now c.args.element.now c.args.now c.from_residual.result c.in_err-decision.field-0.0 c.from_residual.ensures.1
          (search (rules, c.in_err-decision.ensures)),
    )

pub returns : goal.returns
returns c =
    done c.args.self.now c.carry_out.new.self c.args.element.now c.args.now c.in_ok-decision.decision c.in_ok-came.came (search (rules, c.in_ok-decision.ensures))
    (search (rules, c.in_ok-came.ensures.came)) (search (rules, c.in_ok-came.ensures.left))
