use Rattle.std.proofs.Common.{◌≡◌, ◌+◌, ◌*◌, sym, ◌∙◌, Some, slice_get, subst}
use Rattle.expiry_scan.proofs.EndLaws.{found_there, none_leaves, leaving_by}
use Rattle.expiry_scan.proofs.timed.TimedElements.is_quiet.Goals as goal

pub returns-then-now-ends : goal.returns-then-now-ends
returns-then-now-ends c = λ before k e l at.
    let own = c.self.inside in
    let known = found_there c.deref.result.now own.ends.items c.args.page c.in-Some.ends.now c.deref.ensures.value c.in-Some.ensures.lookup.0 c.in-Some.ensures.lookup.1 in
    let there = subst (λ z. slice_get z (512 * c.args.page + k) ≡ Some e) (sym c.self.view_is) at in
    none_leaves c.args.passed c.args.now e (((c.self.invariant.1 c.args.page c.in-Some.ends.now known).moments k e l there).0 c.args.now c.if-now-ends.true)

pub returns-then-now-ends-2 : goal.returns-then-now-ends-2
returns-then-now-ends-2 c = λ by k e l at.
    let own = c.self.inside in
    let known = found_there c.deref.result.now own.ends.items c.args.page c.in-Some.ends.now c.deref.ensures.value c.in-Some.ensures.lookup.0 c.in-Some.ensures.lookup.1 in
    let there = subst (λ z. slice_get z (512 * c.args.page + k) ≡ Some e) (sym c.self.view_is) at in
    leaving_by own.passed c.args.passed c.args.now e (sym c.is_by.ensures ∙ by) (((c.self.invariant.1 c.args.page c.in-Some.ends.now known).moments k e l there).1 c.args.now c.if-now-ends-2.true)
