use Rattle.std.proofs.Common.{rules, refl, ◌≡◌, ◌++◌, [], ◌∷◌, ◌∙◌}
use Rattle.control_desk.proofs.Doing.{done_of}
use Rattle.control_desk.proofs.transaction.transact.Goals as goal

pub returns-clause-ok : goal.returns-clause-ok
returns-clause-ok c =
    let before : c.reserve.new.self.items ≡ c.args.log.now = search rules in
    let logged : c.push_reserved.new.self.items ≡ c.args.log.now ++ record { clerk = c.args.clerk; steps = c.args.steps.now; keep_going = c.args.keep_going; refused = c.in_ok-refused.refused; end = c.in_ok-end.end } ∷ [] =
    c.push_reserved.ensures.items ∙ (λ i. before i ++ record { clerk = c.args.clerk; steps = c.in_ok-logged.ensures i; keep_going = c.args.keep_going; refused = c.in_ok-refused.refused; end = c.in_ok-end.end } ∷ []) in
    done_of c.args.clerk c.args.keep_going c.args.steps.now c.requires.transaction c.args.steps.now c.index-steps-count.result c.args.control.now c.try_changes.new.control c.end_transaction.new.control
    c.in_ok-refused.failed c.in_ok-refused.refused c.in_ok-end.end c.args.log.now _ refl c.index-steps-count.is c.in_ok-refused.ensures.ok c.in_ok-end.ensures.ok c.in_ok-end.ensures.closed (search rules ∙ logged)
