use Rattle.std.proofs.Common.{sym, subst, length}
use Rattle.expiry_scan.specs.Soonest.{DifferAt}
use Rattle.expiry_scan.proofs.EndLaws.{differ_pushed}
use Rattle.expiry_scan.proofs.timed.TimedElements.push.Goals as goal

pub invariant_of-self-2 : goal.invariant_of-self-2
invariant_of-self-2 c =
    let es = c.self.inside.items in
    let one = subst (λ i. DifferAt i es c.push.new.self) (sym c.len-i.ensures) (subst (λ z. DifferAt (length es) es z) (sym c.in_ok-push.ensures.ok) (differ_pushed es c.args.element)) in
    c.forget.ensures c.self.inside.passed es c.push.new.self c.self.invariant one
