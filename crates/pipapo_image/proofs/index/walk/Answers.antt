use Rattle.std.proofs.Common.{◌≡◌, ◌+◌, ◌<◌, sym, ◌∙◌, ap, subst, arith, true, false, length}
use Rattle.std.specs.Prelude.{replicate, slice_index}
use Rattle.std.proofs.lemmas.List.{length-replicate}
use Rattle.bit_rows.specs.Row.{Row}
use Rattle.set_model.specs.SetState.{field_rules}
use Rattle.set_model.specs.Blocks.{holds_value}
use Rattle.set_tables.specs.Rows.{matched}
use Rattle.pipapo_image.specs.Index.Room.{HasRoomForRules}
use Rattle.pipapo_image.proofs.Items.{field-stands, map-spans, inside-row, field-count, key-within}
use Rattle.pipapo_image.proofs.WalkLaws.{first-row, next-row}
use Rattle.pipapo_image.proofs.index.walk.Goals as goal

pub fill-requires : goal.fill-requires
fill-requires c =
    let some : 0 < length c.args.fields.now = omega (arith, c.requires.shaped.one_fewer) in
    let few = c.requires.shaped.few 0 c.index-fields-0.result some in
    omega (arith, few, c.requires.room.room, field-count c.args.fields.now 0 c.index-fields-0.result c.index-fields-0.result some c.index-fields-0.is)

pub match_field-requires : goal.match_field-requires
match_field-requires c =
    let some : 0 < length c.args.fields.now = omega (arith, c.requires.shaped.one_fewer) in
    record {
      length = ap length c.fill.ensures.bits ∙ length-replicate c.index-fields-0.result.rules true;
      value = key-within c.args.fields.now c.args.key.now 0 c.index-fields-0.result c.requires.key some c.index-fields-0.is;
    }

pub fields-init : goal.fields-init
fields-init c =
    let some : 0 < length c.args.fields.now = omega (arith, c.requires.shaped.one_fewer) in
    let long : length c.fill.new.self.bits ≡ c.index-fields-0.result.rules = ap length c.fill.ensures.bits ∙ length-replicate c.index-fields-0.result.rules true in
    record {
      row = λ kinds es s m.
          let st = field-stands kinds es c.args.fields.now 0 c.index-fields-0.result s some c.index-fields-0.is in
          c.match_field.ensures.bits (field_rules kinds 0 es) st
          ∙ ap (matched (λ b. holds_value b (slice_index c.args.key.now 0)) (field_rules kinds 0 es)) c.fill.ensures.bits
          ∙ first-row kinds es c.args.key.now c.index-fields-0.result.rules (sym st.one_each);
      len = λ t. c.match_field.ensures.len ∙ long ∙ sym (field-count c.args.fields.now 0 c.index-fields-0.result t some c.index-fields-0.is);
      room = record { room = omega (arith, c.match_field.ensures.len, c.match_field.ensures.spare, c.fill.ensures.room, c.requires.room.room) };
      next_room = c.requires.next_room;
    }

pub fill-requires-in-fields : goal.fill-requires-in-fields
fill-requires-in-fields c =
    let g : c.fields.f + 1 < length c.args.fields.now = omega (arith, c.requires.shaped.one_fewer, c.fields-test.true) in
    let few = c.requires.shaped.few (c.fields.f + 1) c.index-fields-f.result g in
    omega (arith, few, c.fields.invariant.next_room.room, field-count c.args.fields.now (c.fields.f + 1) c.index-fields-f.result c.index-fields-f.result g c.index-fields-f.is)

pub refill-requires : goal.refill-requires
refill-requires c =
    let g : c.fields.f + 1 < length c.args.fields.now = omega (arith, c.requires.shaped.one_fewer, c.fields-test.true) in
    let long : length c.fill-in-fields.new.self.bits ≡ c.index-fields-f.result.rules = ap length c.fill-in-fields.ensures.bits ∙ length-replicate c.index-fields-f.result.rules false in
    record {
      rows = c.fields.invariant.len c.index-fields-f.result ∙ sym (c.requires.shaped.one_each c.fields.f c.index-fields-f.result c.index-maps-f.result c.fields-test.true) ∙ sym (ap (λ z. length z.items) c.index-maps-f.is);
      zeros = c.fill-in-fields.ensures.bits ∙ ap (λ n. replicate n false) (sym long);
      within = inside-row c.args.fields.now c.args.maps.now c.fields.f _ c.index-fields-f.result c.index-maps-f.result c.requires.shaped c.fields-test.true c.index-fields-f.is c.index-maps-f.is long;
    }

pub match_field-requires-in-fields : goal.match_field-requires-in-fields
match_field-requires-in-fields c =
    let g : c.fields.f + 1 < length c.args.fields.now = omega (arith, c.requires.shaped.one_fewer, c.fields-test.true) in
    let long : length c.fill-in-fields.new.self.bits ≡ c.index-fields-f.result.rules = ap length c.fill-in-fields.ensures.bits ∙ length-replicate c.index-fields-f.result.rules false in
    record {
      length = c.refill.ensures.len ∙ long;
      value = key-within c.args.fields.now c.args.key.now (c.fields.f + 1) c.index-fields-f.result c.requires.key g c.index-fields-f.is;
    }

pub fields-preserved : goal.fields-preserved
fields-preserved c =
    let g : c.fields.f + 1 < length c.args.fields.now = omega (arith, c.requires.shaped.one_fewer, c.fields-test.true) in
    let long : length c.fill-in-fields.new.self.bits ≡ c.index-fields-f.result.rules = ap length c.fill-in-fields.ensures.bits ∙ length-replicate c.index-fields-f.result.rules false in
    let P : Row → Type 0 = λ z. HasRoomForRules z in
    record {
      row = λ kinds es s m.
          let st = field-stands kinds es c.args.fields.now (c.fields.f + 1) c.index-fields-f.result s g c.index-fields-f.is in
          ap (λ x. x.bits) c.swap.ensures.x_after
          ∙ c.match_field-in-fields.ensures.bits (field_rules kinds (c.fields.f + 1) es) st
          ∙ ap (matched (λ b. holds_value b (slice_index c.args.key.now (c.fields.f + 1))) (field_rules kinds (c.fields.f + 1) es)) c.refill.ensures.bits
          ∙ next-row kinds es c.args.key.now c.fields.f _ c.index-maps-f.result.items c.fields.row.bits
          (map-spans kinds es c.args.maps.now c.fields.f c.index-maps-f.result m c.fields-test.true c.index-maps-f.is)
          (c.fields.invariant.row kinds es s m)
          (long ∙ sym st.one_each);
      len = λ t.
          ap (λ x. length x.bits) c.swap.ensures.x_after ∙ c.match_field-in-fields.ensures.len ∙ c.refill.ensures.len ∙ long
          ∙ sym (field-count c.args.fields.now (c.fields.f + 1) c.index-fields-f.result t g c.index-fields-f.is);
      room = subst P (sym c.swap.ensures.x_after) (record { room = omega (arith, c.match_field-in-fields.ensures.len, c.match_field-in-fields.ensures.spare, c.refill.ensures.len, c.refill.ensures.spare, c.fill-in-fields.ensures.room, c.fields.invariant.next_room.room) });
      next_room = subst P (sym c.swap.ensures.y_after) c.fields.invariant.room;
    }

pub returns-clause-row : goal.returns-clause-row
returns-clause-row c = λ kinds es s m. let e : c.fields.f ≡ length c.args.maps.now = omega arith in rw e at (c.fields.invariant.row kinds es s m)

pub returns-clause-length : goal.returns-clause-length
returns-clause-length c = λ t. let e : c.fields.f ≡ length c.args.maps.now = omega arith in rw e at (c.fields.invariant.len t)
