use Rattle.std.proofs.Common.{◌+◌, ◌-◌, ◌/◌, ◌<◌, ap, arith, length, None}
use Rattle.std.proofs.lemmas.Option.{get_or_from_slice_get}
use Rattle.set_tables.specs.declared.End.{End}
use Rattle.pipapo_image.proofs.EndLaws.{before-place, not-before-place, rules-within}
use Rattle.pipapo_image.proofs.index.place.rules_before.Goals as goal

pub halves-init : goal.halves-init
halves-init c = record {
  within = omega arith;
  order = omega arith;
  rules = λ kinds es e. (omega arith, omega (arith, c.len-high.ensures, rules-within kinds es c.args.ends.now.items c.args.place e));
}

pub halves-preserved-then-end-place : goal.halves-preserved-then-end-place
halves-preserved-then-end-place c =
    let d : End = record { place = 0; expiry = None } in
    let m = c.halves.low + (c.halves.high - c.halves.low) / 2 in
    let inside : m < length c.args.ends.now.items = omega (arith, c.halves.invariant.within, c.halves-test.true) in
    record {
      within = c.halves.invariant.within;
      order = omega (arith, c.halves-test.true);
      rules = λ kinds es e. (before-place kinds es c.args.ends.now.items c.args.place m d e inside (rw (ap (λ x. x.place) (get_or_from_slice_get c.args.ends.now.items m c.at-end.result.now d c.at-end.ensures)) c.if-end-place.true), (c.halves.invariant.rules kinds es e).1);
    }

pub halves-preserved : goal.halves-preserved
halves-preserved c =
    let d : End = record { place = 0; expiry = None } in
    let m = c.halves.low + (c.halves.high - c.halves.low) / 2 in
    record {
      within = omega (arith, c.halves.invariant.within, c.halves-test.true);
      order = omega (arith, c.halves-test.true);
      rules = λ kinds es e. ((c.halves.invariant.rules kinds es e).0, not-before-place kinds es c.args.ends.now.items c.args.place m d e (rw (ap (λ x. x.place) (get_or_from_slice_get c.args.ends.now.items m c.at-end.result.now d c.at-end.ensures)) c.if-end-place.false));
    }

pub returns-clause-rules : goal.returns-clause-rules
returns-clause-rules c = λ kinds es e.
    let r = c.halves.invariant.rules kinds es e in
    let a = r.0 in
    let b = r.1 in
    omega (arith, c.halves.invariant.order)
