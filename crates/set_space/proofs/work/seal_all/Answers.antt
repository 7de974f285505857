use Rattle.std.proofs.Common.{◌≤◌, ◌∙◌, subst, length, arith}
use Rattle.std.specs.Arc.{arc_value}
use Rattle.set_space.specs.OpenSets.{open_states, IsSealed}
use Rattle.set_space.proofs.SetsLaws.{open-long, sealed-more, sealed-all}
use Rattle.set_space.proofs.work.seal_all.Goals as goal

pub sets-preserved : goal.sets-preserved
sets-preserved c =
    let one : IsSealed (open_states c.args.sets.now c.args.base.now.sets) c.sets.i c.args.now (arc_value c.in_ok-set.set) c.in_ok-set.count =
    subst (λ z. IsSealed z c.sets.i c.args.now (arc_value c.in_ok-set.set) c.in_ok-set.count) c.sets.invariant.1 c.in_ok-set.ensures.sealed in
    let more = sealed-more (open_states c.args.sets.now c.args.base.now.sets) c.sets.i c.args.now c.sets.published c.sets.expired (arc_value c.in_ok-set.set) c.in_ok-set.count one c.sets.invariant.2 c.sets.invariant.3 in
    (c.in_ok-set.ensures.long ∙ c.sets.invariant.0, c.in_ok-set.ensures.same ∙ c.sets.invariant.1, c.in_ok-push.ensures ∙ more.0, more.1, omega (arith, one.few, c.sets.invariant.4))

pub returns-clause-sealed : goal.returns-clause-sealed
returns-clause-sealed c =
    let long = open-long c.args.sets.now c.args.base.now.sets c.requires.long in
    let over : length (open_states c.args.sets.now c.args.base.now.sets) ≤ c.sets.i = omega (arith, long, c.requires.long, c.sets-test.false, c.sets.invariant.0) in
    sealed-all (open_states c.args.sets.now c.args.base.now.sets) c.sets.i c.args.now c.sets.published c.sets.expired over c.sets.invariant.2 c.sets.invariant.3
