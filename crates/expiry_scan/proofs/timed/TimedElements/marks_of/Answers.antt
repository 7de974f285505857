use Rattle.std.proofs.Common.{◌∙◌, ap, Some, subst}
use Rattle.expiry_scan.specs.Soonest.{AreMarks}
use Rattle.expiry_scan.proofs.EndLaws.{found_there, marks_known}
use Rattle.expiry_scan.proofs.timed.TimedElements.marks_of.Goals as goal

pub returns-in-Some-Some : goal.returns-in-Some-Some
returns-in-Some-Some c =
    let own = c.self.inside in
    let ends = c.in-Some-Some.ends.now in
    let known = found_there c.deref.result.now own.ends.items c.args.page ends c.deref.ensures.value c.in-Some-Some.ensures.lookup.0 c.in-Some-Some.ensures.lookup.1 in
    let marks = marks_known own.passed c.args.now own.items c.args.page ends (c.in-Some-Some.is-1 ∙ ap Some c.if-moment-now.true) c.if-now-ends.true (c.self.invariant.1 c.args.page ends known) in
    subst (λ z. AreMarks (Some c.args.now) z c.args.page ends.left) c.self.view_is marks
