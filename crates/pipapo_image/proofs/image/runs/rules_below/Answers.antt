use Rattle.std.proofs.Common.{◌+◌, ◌-◌, ◌/◌, ◌<◌, ap, suc, arith, length}
use Rattle.std.proofs.lemmas.Option.{get_or_from_slice_get}
use Rattle.set_tables.specs.declared.Span.{Span}
use Rattle.set_tables.specs.Tables.{split}
use Rattle.pipapo_image.proofs.SpanLaws.{before-rule, not-before-rule, spans-front}
use Rattle.pipapo_image.proofs.image.runs.rules_below.Goals as goal

pub halves-init : goal.halves-init
halves-init c = record {
  within = omega (arith, c.len-high.ensures);
  order = omega arith;
  rules = λ kinds es f place e some n.
      let front = spans-front (split kinds f) (split kinds (suc f)) es c.args.map.now.items place e in
      (omega arith, omega (arith, c.len-high.ensures));
}

pub halves-preserved-then-span-first : goal.halves-preserved-then-span-first
halves-preserved-then-span-first c =
    let d : Span = record { first = 0; count = 0 } in
    let m = c.halves.low + (c.halves.high - c.halves.low) / 2 in
    let inside : m < length c.args.map.now.items = omega (arith, c.halves.invariant.within, c.halves-test.true) in
    record {
      within = c.halves.invariant.within;
      order = omega (arith, c.halves-test.true);
      rules = λ kinds es f place e some n.
          (before-rule (split kinds f) (split kinds (suc f)) es c.args.map.now.items place m c.args.first d e n inside (rw (ap (λ x. x.first) (get_or_from_slice_get c.args.map.now.items m c.at-span.result.now d c.at-span.ensures)) c.if-span-first.true), (c.halves.invariant.rules kinds es f place e some n).1);
    }

pub halves-preserved : goal.halves-preserved
halves-preserved c =
    let d : Span = record { first = 0; count = 0 } in
    let m = c.halves.low + (c.halves.high - c.halves.low) / 2 in
    record {
      within = omega (arith, c.halves.invariant.within, c.halves-test.true);
      order = omega (arith, c.halves-test.true);
      rules = λ kinds es f place e some n.
          ((c.halves.invariant.rules kinds es f place e some n).0, not-before-rule (split kinds f) (split kinds (suc f)) es c.args.map.now.items place m c.args.first d some e n (rw (ap (λ x. x.first) (get_or_from_slice_get c.args.map.now.items m c.at-span.result.now d c.at-span.ensures)) c.if-span-first.false));
    }

pub returns : goal.returns
returns c = λ kinds es f place e some n.
    let r = c.halves.invariant.rules kinds es f place e some n in
    let a = r.0 in
    let b = r.1 in
    omega (arith, c.halves.invariant.order)
