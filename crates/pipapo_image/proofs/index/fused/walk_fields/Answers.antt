use Rattle.std.proofs.Common.{◌≡◌, refl, ◌+◌, ◌-◌, ◌<◌, sym, ◌∙◌, ap, subst, arith, length}
use Rattle.bit_rows.specs.Row.{Row}
use Rattle.set_tables.specs.Rows.{refilled}
use Rattle.set_tables.specs.Core.{row_of}
use Rattle.set_tables.specs.Tables.{field_spans}
use Rattle.set_tables.specs.Search.{key_tests}
use Rattle.fused_lookup.specs.Filled.{AreChained}
use Rattle.fused_lookup.specs.Window.{IsWindow}
use Rattle.pipapo_image.specs.Index.Room.{IsBlank}
use Rattle.pipapo_image.proofs.Items.{field-stands, map-spans, field-count, key-within}
use Rattle.pipapo_image.proofs.FusedLaws.{inside-limit, fused-first, fused-next}
use Rattle.pipapo_image.proofs.index.fused.walk_fields.Goals as goal

pub refill_from_first-window-requires : goal.refill_from_first-window-requires
refill_from_first-window-requires c =
    let some : 0 < length c.args.fields.now = omega (arith, c.requires.shaped.one_fewer) in
    record {
      value = key-within c.args.fields.now c.args.key.now 0 c.index-fields-0.result c.requires.key some c.index-fields-0.is;
      rules = ap (λ z. length z.items) c.index-maps-0.is ∙ c.requires.shaped.one_each 0 c.index-fields-0.result c.index-maps-0.result c.requires.some
          ∙ field-count c.args.fields.now 0 c.index-fields-0.result c.index-fields-0.result some c.index-fields-0.is;
      inside = inside-limit c.args.fields.now c.args.maps.now 0 (length c.args.row.now.bits) c.index-maps-0.result c.index-maps-0.result.items c.requires.shaped c.requires.some c.index-maps-0.is refl c.requires.row.long;
      chained = subst (λ z. AreChained z.items) (sym c.index-maps-0.is) (c.requires.shaped.chained 0 c.index-maps-0.result c.requires.some);
      clear = c.requires.row.clear;
    }

pub fields-init : goal.fields-init
fields-init c =
    let some : 0 < length c.args.fields.now = omega (arith, c.requires.shaped.one_fewer) in
    record {
      some = omega arith;
      reached = λ kinds es s m.
          fused-first kinds es c.args.key.now c.index-fields-0.result c.index-maps-0.result.items c.refill_from_first-window.new.next.bits
          (field-stands kinds es c.args.fields.now 0 c.index-fields-0.result s some c.index-fields-0.is)
          (map-spans kinds es c.args.maps.now 0 c.index-maps-0.result m c.requires.some c.index-maps-0.is)
          c.refill_from_first-window.ensures.refilled;
      long = c.refill_from_first-window.ensures.next_len ∙ c.requires.row.long;
      full = c.refill_from_first-window.ensures.next_spare ∙ c.requires.row.full;
      window = c.refill_from_first-window.ensures.window;
      next = c.requires.next;
    }

pub refill_from-window-requires : goal.refill_from-window-requires
refill_from-window-requires c =
    let g : c.fields.f < length c.args.fields.now = omega (arith, c.requires.shaped.one_fewer, c.fields-test.true) in
    let few = c.requires.shaped.few c.fields.f c.index-fields-f.result g in
    let count = field-count c.args.fields.now c.fields.f c.index-fields-f.result c.index-fields-f.result g c.index-fields-f.is in
    record {
      value = key-within c.args.fields.now c.args.key.now c.fields.f c.index-fields-f.result c.requires.key g c.index-fields-f.is;
      rules = ap (λ z. length z.items) c.index-maps-f.is ∙ c.requires.shaped.one_each c.fields.f c.index-fields-f.result c.index-maps-f.result c.fields-test.true ∙ count;
      room = omega (arith, c.fields.invariant.long);
      inside = inside-limit c.args.fields.now c.args.maps.now c.fields.f (length c.fields.next.bits) c.index-maps-f.result c.index-maps-f.result.items c.requires.shaped c.fields-test.true c.index-maps-f.is refl c.fields.invariant.next.long;
      chained = subst (λ z. AreChained z.items) (sym c.index-maps-f.is) (c.requires.shaped.chained c.fields.f c.index-maps-f.result c.fields-test.true);
      window = c.fields.invariant.window;
      clear = c.fields.invariant.next.clear;
    }

pub fields-preserved : goal.fields-preserved
fields-preserved c =
    let g : c.fields.f < length c.args.fields.now = omega (arith, c.requires.shaped.one_fewer, c.fields-test.true) in
    let few = c.requires.shaped.few c.fields.f c.index-fields-f.result g in
    let count = field-count c.args.fields.now c.fields.f c.index-fields-f.result c.index-fields-f.result g c.index-fields-f.is in
    let up : c.fields.f ≡ (c.fields.f - 1) + 1 = omega (arith, c.fields.invariant.some) in
    let back : c.fields.f + 1 - 1 ≡ c.fields.f = omega arith in
    let P : Row → Type 0 = λ z. IsBlank z in
    record {
      some = omega arith;
      reached = λ kinds es s m.
          let next = c.refill_from-window.new.next.bits in
          ap (λ z. z.bits) c.swap.ensures.x_after
          ∙ fused-next kinds es c.args.key.now (c.fields.f - 1) c.fields.f c.index-fields-f.result c.index-maps-f.result.items c.fields.row.bits next up
          (field-stands kinds es c.args.fields.now c.fields.f c.index-fields-f.result s g c.index-fields-f.is) (omega (arith, c.fields.invariant.long))
          (map-spans kinds es c.args.maps.now c.fields.f c.index-maps-f.result m c.fields-test.true c.index-maps-f.is)
          (c.fields.invariant.reached kinds es s m) c.refill_from-window.ensures.refilled
          ∙ ap (λ n. refilled (field_spans kinds n es) (row_of kinds es (key_tests c.args.key.now) n) (length next)) (sym back)
          ∙ ap (λ z. refilled (field_spans kinds (c.fields.f + 1 - 1) es) (row_of kinds es (key_tests c.args.key.now) (c.fields.f + 1 - 1)) (length z.bits)) (sym c.swap.ensures.x_after);
      long = ap (λ z. length z.bits) c.swap.ensures.x_after ∙ c.refill_from-window.ensures.next_len ∙ c.fields.invariant.next.long;
      full = ap (λ z. z.spare) c.swap.ensures.x_after ∙ c.refill_from-window.ensures.next_spare ∙ c.fields.invariant.next.full;
      window = subst (λ z. IsWindow z.bits c.refill_from-window.result) (sym c.swap.ensures.x_after) c.refill_from-window.ensures.window;
      next = subst P (sym c.swap.ensures.y_after) (record { long = c.refill_from-window.ensures.len ∙ c.fields.invariant.long; full = c.refill_from-window.ensures.spare ∙ c.fields.invariant.full; clear = c.refill_from-window.ensures.clear });
    }

pub returns-clause-reached : goal.returns-clause-reached
returns-clause-reached c = λ kinds es s m. let e : c.fields.f ≡ length c.args.maps.now = omega (arith, c.requires.some) in rw e at (c.fields.invariant.reached kinds es s m)
