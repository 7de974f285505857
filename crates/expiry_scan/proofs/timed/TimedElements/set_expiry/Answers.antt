use Rattle.std.proofs.Common.{◌≡◌, refl, sym, ◌∙◌, ap, slice_set, subst}
use Rattle.set_model.specs.Expiry.{renewed_at, renewed_element}
use Rattle.expiry_scan.specs.Soonest.{DifferAt}
use Rattle.expiry_scan.proofs.EndLaws.{differ_renewed, same_ends}
use Rattle.expiry_scan.proofs.timed.TimedElements.set_expiry.Goals as goal

pub invariant_of-self : goal.invariant_of-self
invariant_of-self c =
    let own = c.self.inside in
    same_ends own.passed own.items c.set.new.self own.ends.items own.ends.items c.in_err-set.ensures.err refl c.self.invariant

pub invariant_of-self-2 : goal.invariant_of-self-2
invariant_of-self-2 c =
    let es = c.self.inside.items in
    let same : c.set.new.self ≡ renewed_at es c.args.i c.args.expiry = c.in_ok-set.ensures.ok ∙ ap (λ e. slice_set es c.args.i e) c.in_ok-element.ensures ∙ sym (ap (renewed_element es c.args.i c.args.expiry) c.at.ensures) in
    c.forget.ensures c.self.inside.passed es c.set.new.self c.self.invariant (subst (λ z. DifferAt c.args.i es z) (sym same) (differ_renewed es c.args.i c.args.expiry))
