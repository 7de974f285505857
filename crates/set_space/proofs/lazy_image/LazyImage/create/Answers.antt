use Rattle.std.proofs.Common.{rules, sym, subst, Ok}
use Rattle.set_model.specs.SetState.{add}
use Rattle.set_space.specs.LazyImage.{set_of, IsLazyDecision}
use Rattle.set_space.proofs.LazyLaws.{decision_grows}
use Rattle.set_space.proofs.Refusals.{creation_refused, creation_exists}
use Rattle.set_space.proofs.lazy_image.LazyImage.create.Goals as goal

pub returns-in_err-decision : goal.returns-in_err-decision
returns-in_err-decision c =
    creation_refused c.decide.new.self.passed c.decide.new.self.image (set_of c.args.self.now) c.args.element.now c.args.now
    c.from_residual.result c.in_err-decision.field-0.0 c.from_residual.ensures.1 c.in_err-decision.ensures.same (search (rules, c.in_err-decision.ensures.decided))

pub returns-in-Some : goal.returns-in-Some
returns-in-Some c =
    creation_exists c.decide.new.self.passed c.decide.new.self.image (set_of c.args.self.now) c.args.element.now c.args.now
    c.in-Some.id c.in_ok-decision.decision c.in_ok-decision.ensures.same (search (rules, c.in_ok-decision.ensures.decided)) (search rules)

pub carry_out-requires-clause-grows : goal.carry_out-requires-clause-grows
carry_out-requires-clause-grows c =
    let d = c.decide.new.self in
    let e = c.args.element.now in
    decision_grows d.passed d.image e c.args.now d.count c.in_ok-decision.decision d.counted
    (subst (λ s. IsLazyDecision d.passed d.image e (add s e c.args.now) (Ok c.in_ok-decision.decision)) (sym c.in_ok-decision.ensures.same) (search (rules, c.in_ok-decision.ensures.decided)))
