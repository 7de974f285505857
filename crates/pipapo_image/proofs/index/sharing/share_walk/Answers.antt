use Rattle.std.proofs.Common.{◌≡◌, ◌+◌, ◌<◌, sym, ◌∙◌, ap, subst, arith, true, false, length, get_or}
use Rattle.std.proofs.lemmas.List.{length-replicate}
use Rattle.bit_rows.specs.Row.{Row}
use Rattle.range_expand.specs.Split.{IsFieldInterval}
use Rattle.set_model.specs.declared.kind.Interval.{Interval}
use Rattle.set_model.specs.SetState.{field_rules}
use Rattle.set_model.specs.Blocks.{blocks}
use Rattle.set_tables.specs.Rows.{matched}
use Rattle.set_tables.specs.Sharing.{shares_some}
use Rattle.pipapo_image.specs.Index.Room.{HasRoomForRules}
use Rattle.pipapo_image.proofs.Items.{field-stands, map-spans, field-count}
use Rattle.pipapo_image.proofs.SharingRows.{field-test, first-shared, next-shared}
use Rattle.pipapo_image.proofs.index.sharing.share_walk.Goals as goal

pub fields-init : goal.fields-init
fields-init c =
    let some : 0 < length c.args.fields.now = omega (arith, c.requires.shaped.one_fewer) in
    let d : Interval = record { low = 0; high = 0 } in
    let part = get_or c.args.parts.now 0 d in
    let t = c.index-fields-0.result in
    let long : length c.fill.new.self.bits ≡ t.rules = ap length c.fill.ensures.bits ∙ length-replicate t.rules true in
    record {
      row = λ kinds es s m.
          let st = field-stands kinds es c.args.fields.now 0 t s some c.index-fields-0.is in
          let test = shares_some (blocks part.low part.high t.bits) in
          c.share_field.ensures.bits (field_rules kinds 0 es) st
          ∙ ap (matched test (field_rules kinds 0 es)) c.fill.ensures.bits
          ∙ first-shared kinds es c.args.parts.now test t.rules (field-test kinds es c.args.fields.now c.args.parts.now 0 t d s c.requires.parts.one_each some c.index-fields-0.is) (sym st.one_each);
      len = λ u. c.share_field.ensures.length ∙ long ∙ sym (field-count c.args.fields.now 0 t u some c.index-fields-0.is);
      room = record { room = omega (arith, c.share_field.ensures.length, c.share_field.ensures.spare, c.fill.ensures.room, c.requires.room.room) };
      next_room = c.share_field.ensures.one_room;
      rest_room = c.share_field.ensures.rest_room;
      sum_room = c.share_field.ensures.sum_room;
    }

pub share_field-requires-in-fields-clause-interval : goal.share_field-requires-in-fields-clause-interval
share_field-requires-in-fields-clause-interval c =
    let g : c.fields.f + 1 < length c.args.fields.now = omega (arith, c.requires.shaped.one_fewer, c.fields-test.true) in
    let d : Interval = record { low = 0; high = 0 } in
    let part = get_or c.args.parts.now (c.fields.f + 1) d in
    subst (λ z. IsFieldInterval part.low part.high z.bits) (sym c.index-fields-f.is) (c.requires.parts.within (c.fields.f + 1) c.index-fields-f.result d g)

pub fields-preserved : goal.fields-preserved
fields-preserved c =
    let g : c.fields.f + 1 < length c.args.fields.now = omega (arith, c.requires.shaped.one_fewer, c.fields-test.true) in
    let d : Interval = record { low = 0; high = 0 } in
    let part = get_or c.args.parts.now (c.fields.f + 1) d in
    let t = c.index-fields-f.result in
    let long : length c.fill-in-fields.new.self.bits ≡ t.rules = ap length c.fill-in-fields.ensures.bits ∙ length-replicate t.rules false in
    let P : Row → Type 0 = λ z. HasRoomForRules z in
    record {
      row = λ kinds es s m.
          let st = field-stands kinds es c.args.fields.now (c.fields.f + 1) t s g c.index-fields-f.is in
          let test = shares_some (blocks part.low part.high t.bits) in
          ap (λ x. x.bits) c.swap.ensures.x_after
          ∙ c.share_field-in-fields.ensures.bits (field_rules kinds (c.fields.f + 1) es) st
          ∙ ap (matched test (field_rules kinds (c.fields.f + 1) es)) c.refill.ensures.bits
          ∙ next-shared kinds es c.args.parts.now test c.fields.f _ c.index-maps-f.result.items c.fields.row.bits
          (field-test kinds es c.args.fields.now c.args.parts.now (c.fields.f + 1) t d s c.requires.parts.one_each g c.index-fields-f.is)
          (map-spans kinds es c.args.maps.now c.fields.f c.index-maps-f.result m c.fields-test.true c.index-maps-f.is)
          (c.fields.invariant.row kinds es s m)
          (long ∙ sym st.one_each);
      len = λ u.
          ap (λ x. length x.bits) c.swap.ensures.x_after ∙ c.share_field-in-fields.ensures.length ∙ c.refill.ensures.len ∙ long
          ∙ sym (field-count c.args.fields.now (c.fields.f + 1) t u g c.index-fields-f.is);
      room = subst P (sym c.swap.ensures.x_after) (record { room = omega (arith, c.share_field-in-fields.ensures.length, c.share_field-in-fields.ensures.spare, c.refill.ensures.len, c.refill.ensures.spare, c.fill-in-fields.ensures.room, c.fields.invariant.next_room.room) });
      next_room = subst P (sym c.swap.ensures.y_after) c.share_field-in-fields.ensures.one_room;
      rest_room = c.share_field-in-fields.ensures.rest_room;
      sum_room = c.share_field-in-fields.ensures.sum_room;
    }

pub returns-clause-row : goal.returns-clause-row
returns-clause-row c = λ kinds es s m. let e : c.fields.f ≡ length c.args.maps.now = omega arith in rw e at (c.fields.invariant.row kinds es s m)
