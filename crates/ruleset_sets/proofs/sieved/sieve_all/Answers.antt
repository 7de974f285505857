use Rattle.std.proofs.Common.{◌<◌, length, arith}
use Rattle.ruleset_sets.proofs.CutLaws.{text-next, skips-next}
use Rattle.ruleset_sets.proofs.sieved.sieve_all.Goals as goal

pub items-preserved : goal.items-preserved
items-preserved c = record {
  text = λ k h.
      let inside : k < length c.items.text = omega arith in
      text-next c.items.level c.in-Some.first.now c.in-Some.rest.now c.items.left.now c.split_at.result.0.now c.split_at.result.1.now c.item_before-item.result k _ _ _
      c.in-Some.ensures.cases.0 c.item_before-item.ensures.item c.item_before-item.ensures.within.0 c.item_before-item.ensures.within.1 c.split_at.ensures.front c.split_at.ensures.back
      (c.in_ok-sieve_item.ensures.text k inside) (c.items.invariant.text k h);
  skips =
      skips-next c.items.level c.in-Some.first.now c.in-Some.rest.now c.items.left.now c.split_at.result.0.now c.split_at.result.1.now c.item_before-item.result _ _ _
      c.in-Some.ensures.cases.0 c.item_before-item.ensures.item c.item_before-item.ensures.within.0 c.item_before-item.ensures.within.1 c.split_at.ensures.front c.split_at.ensures.back
      c.in_ok-sieve_item.ensures.skips c.items.invariant.skips;
}
