use Rattle.std.proofs.Common.{sym, ◌∙◌, subst}
use Rattle.expiry_scan.specs.declared.timed.TimedElements.TheInside.{Inside}
use Rattle.expiry_scan.specs.Soonest.{AreEnds}
use Rattle.expiry_scan.proofs.EndLaws.{ends_by, no_ends}
use Rattle.expiry_scan.proofs.timed.TimedElements.find_soonest.Goals.{then-not-is_by, else-not-is_by}
use Rattle.expiry_scan.proofs.timed.TimedElements.find_soonest.Goals as goal

pub find_again-requires : goal.find_again-requires
find_again-requires c =
    elim c.if-not-is_by.branch [
      | then-not-is_by w ↦ subst (λ (own : Inside). AreEnds c.args.passed own.items own.ends.items) (sym w.self-inside-is) (subst (AreEnds c.args.passed c.self.inside.items) (sym w.clear.ensures.items) (no_ends c.args.passed c.self.inside.items))
      | else-not-is_by w ↦ subst (λ (own : Inside). AreEnds c.args.passed own.items own.ends.items) (sym w.self-inside-is) (ends_by c.self.inside.passed c.args.passed c.self.inside.items c.self.inside.ends.items (sym c.is_by.ensures ∙ w.if-not-is_by.false) c.self.invariant)
    ]
