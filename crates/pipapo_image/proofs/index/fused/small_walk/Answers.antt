use Rattle.std.proofs.Common.{◌≡◌, ◌+◌, ◌-◌, ◌<◌, ◌≤◌, sym, ◌∙◌, ap, subst, arith, length}
use Rattle.set_tables.specs.Rows.{refilled}
use Rattle.set_tables.specs.Core.{row_of}
use Rattle.set_tables.specs.Tables.{field_spans}
use Rattle.set_tables.specs.Search.{key_tests}
use Rattle.fused_lookup.specs.Filled.{AreChained}
use Rattle.fused_lookup.specs.Words.{small_row}
use Rattle.fused_lookup.proofs.SmallLaws.{length-small}
use Rattle.pipapo_image.proofs.Items.{field-stands, map-spans, field-count, key-within}
use Rattle.pipapo_image.proofs.FusedLaws.{inside-small, fused-first, fused-next, fused-led}
use Rattle.pipapo_image.proofs.index.fused.small_walk.Goals as goal

pub refill_small_first-left-requires : goal.refill_small_first-left-requires
refill_small_first-left-requires c =
    let some : 0 < length c.args.fields.now = omega (arith, c.requires.shaped.one_fewer) in
    let count = field-count c.args.fields.now 0 c.index-fields-0.result c.index-fields-0.result some c.index-fields-0.is in
    record {
      value = key-within c.args.fields.now c.args.key.now 0 c.index-fields-0.result c.requires.key some c.index-fields-0.is;
      few = subst (λ n. n ≤ 128) count (c.requires.small.few 0 c.index-fields-0.result some);
      rules = ap (λ z. length z.items) c.index-maps-0.is ∙ c.requires.shaped.one_each 0 c.index-fields-0.result c.index-maps-0.result c.requires.some ∙ count;
      inside = inside-small c.args.fields.now c.args.maps.now 0 c.index-maps-0.result c.requires.shaped c.requires.small c.requires.some c.index-maps-0.is;
      chained = subst (λ z. AreChained z.items) (sym c.index-maps-0.is) (c.requires.shaped.chained 0 c.index-maps-0.result c.requires.some);
    }

pub fields-init : goal.fields-init
fields-init c =
    let some : 0 < length c.args.fields.now = omega (arith, c.requires.shaped.one_fewer) in
    record {
      some = omega arith;
      reached = λ kinds es s m.
          fused-first kinds es c.args.key.now c.index-fields-0.result c.index-maps-0.result.items (small_row c.refill_small_first-left.result)
          (field-stands kinds es c.args.fields.now 0 c.index-fields-0.result s some c.index-fields-0.is)
          (map-spans kinds es c.args.maps.now 0 c.index-maps-0.result m c.requires.some c.index-maps-0.is)
          c.refill_small_first-left.ensures;
    }

pub refill_small-left-requires : goal.refill_small-left-requires
refill_small-left-requires c =
    let g : c.fields.f < length c.args.fields.now = omega (arith, c.requires.shaped.one_fewer, c.fields-test.true) in
    let count = field-count c.args.fields.now c.fields.f c.index-fields-f.result c.index-fields-f.result g c.index-fields-f.is in
    record {
      value = key-within c.args.fields.now c.args.key.now c.fields.f c.index-fields-f.result c.requires.key g c.index-fields-f.is;
      few = subst (λ n. n ≤ 128) count (c.requires.small.few c.fields.f c.index-fields-f.result g);
      rules = ap (λ z. length z.items) c.index-maps-f.is ∙ c.requires.shaped.one_each c.fields.f c.index-fields-f.result c.index-maps-f.result c.fields-test.true ∙ count;
      inside = inside-small c.args.fields.now c.args.maps.now c.fields.f c.index-maps-f.result c.requires.shaped c.requires.small c.fields-test.true c.index-maps-f.is;
      chained = subst (λ z. AreChained z.items) (sym c.index-maps-f.is) (c.requires.shaped.chained c.fields.f c.index-maps-f.result c.fields-test.true);
    }

pub fields-preserved : goal.fields-preserved
fields-preserved c =
    let g : c.fields.f < length c.args.fields.now = omega (arith, c.requires.shaped.one_fewer, c.fields-test.true) in
    let few = c.requires.small.few c.fields.f c.index-fields-f.result g in
    let count = field-count c.args.fields.now c.fields.f c.index-fields-f.result c.index-fields-f.result g c.index-fields-f.is in
    let wide = length-small c.fields.left in
    let up : c.fields.f ≡ (c.fields.f - 1) + 1 = omega (arith, c.fields.invariant.some) in
    let back : c.fields.f + 1 - 1 ≡ c.fields.f = omega arith in
    let next = small_row c.refill_small-left.result in
    record {
      some = omega arith;
      reached = λ kinds es s m.
          fused-next kinds es c.args.key.now (c.fields.f - 1) c.fields.f c.index-fields-f.result c.index-maps-f.result.items (small_row c.fields.left) next up
          (field-stands kinds es c.args.fields.now c.fields.f c.index-fields-f.result s g c.index-fields-f.is) (omega (arith, few, count, wide))
          (map-spans kinds es c.args.maps.now c.fields.f c.index-maps-f.result m c.fields-test.true c.index-maps-f.is)
          (c.fields.invariant.reached kinds es s m) c.refill_small-left.ensures
          ∙ ap (λ n. refilled (field_spans kinds n es) (row_of kinds es (key_tests c.args.key.now) n) (length next)) (sym back);
    }

pub lead_small-requires : goal.lead_small-requires
lead_small-requires c =
    let g : length c.args.maps.now < length c.args.fields.now = omega (arith, c.requires.shaped.one_fewer) in
    let count = field-count c.args.fields.now (length c.args.maps.now) c.index-fields-last.result c.index-fields-last.result g c.index-fields-last.is in
    record {
      value = key-within c.args.fields.now c.args.key.now (length c.args.maps.now) c.index-fields-last.result c.requires.key g c.index-fields-last.is;
      few = subst (λ n. n ≤ 128) count (c.requires.small.few (length c.args.maps.now) c.index-fields-last.result g);
      rules = c.requires.ends c.index-fields-last.result ∙ count;
    }

pub returns : goal.returns
returns c = λ kinds es s m.
    let g : length c.args.maps.now < length c.args.fields.now = omega (arith, c.requires.shaped.one_fewer) in
    let few = c.requires.small.few (length c.args.maps.now) c.index-fields-last.result g in
    let count = field-count c.args.fields.now (length c.args.maps.now) c.index-fields-last.result c.index-fields-last.result g c.index-fields-last.is in
    let wide = length-small c.fields.left in
    let e : c.fields.f ≡ length c.args.maps.now = omega (arith, c.requires.some) in
    let up : length c.args.maps.now ≡ (length c.args.maps.now - 1) + 1 = omega (arith, c.requires.some) in
    fused-led kinds es c.args.key.now (length c.args.maps.now - 1) (length c.args.maps.now) c.args.now c.index-fields-last.result c.args.ends.now.items (small_row c.fields.left) c.lead_small.result up
    (field-stands kinds es c.args.fields.now (length c.args.maps.now) c.index-fields-last.result s g c.index-fields-last.is) (omega (arith, few, count, wide))
    (rw e at (c.fields.invariant.reached kinds es s m)) c.lead_small.ensures
