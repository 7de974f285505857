use Rattle.std.proofs.Common.{◌≡◌, ◌+◌, ◌-◌, ◌<◌, sym, ◌∙◌, ap, arith, length, get_or}
use Rattle.set_tables.specs.Rows.{led_to}
use Rattle.set_tables.specs.Core.{row_of}
use Rattle.set_tables.specs.Search.{key_tests}
use Rattle.pipapo_image.proofs.Items.{field-stands, field-count, key-within}
use Rattle.pipapo_image.proofs.FusedLaws.{are-small, fused-led, fused-led-first}
use Rattle.pipapo_image.proofs.index.fused.fused_walk.Goals as goal

pub lead_from_first-requires : goal.lead_from_first-requires
lead_from_first-requires c =
    let some : 0 < length c.args.fields.now = omega (arith, c.requires.shaped.one_fewer) in
    record {
      value = key-within c.args.fields.now c.args.key.now 0 c.index-fields-0.result c.requires.key some c.index-fields-0.is;
      rules = c.requires.ends c.index-fields-0.result ∙ ap (λ n. (get_or c.args.fields.now n c.index-fields-0.result).rules) c.if-last-eq0.true
          ∙ field-count c.args.fields.now 0 c.index-fields-0.result c.index-fields-0.result some c.index-fields-0.is;
    }

pub returns-then-last-eq0-clause-led : goal.returns-then-last-eq0-clause-led
returns-then-last-eq0-clause-led c = λ kinds es s m.
    let some : 0 < length c.args.fields.now = omega (arith, c.requires.shaped.one_fewer) in
    fused-led-first kinds es c.args.key.now c.args.now c.index-fields-0.result c.args.ends.now.items c.lead_from_first.result
    (field-stands kinds es c.args.fields.now 0 c.index-fields-0.result s some c.index-fields-0.is) c.lead_from_first.ensures
    ∙ ap (λ n. led_to c.args.ends.now.items (row_of kinds es (key_tests c.args.key.now) n) c.args.now) (sym c.if-last-eq0.true)

pub small_walk-requires : goal.small_walk-requires
small_walk-requires c = record {
  shaped = c.requires.shaped;
  some = omega (arith, c.if-last-eq0.false);
  small = are-small c.args.fields.now (sym c.are_small.ensures ∙ c.if-are_small.true);
  ends = c.requires.ends;
  key = c.requires.key;
}

pub lead_from-requires : goal.lead_from-requires
lead_from-requires c =
    let g : length c.args.maps.now < length c.args.fields.now = omega (arith, c.requires.shaped.one_fewer) in
    let few = c.requires.shaped.few (length c.args.maps.now) c.index-fields-last.result g in
    let count = field-count c.args.fields.now (length c.args.maps.now) c.index-fields-last.result c.index-fields-last.result g c.index-fields-last.is in
    record {
      value = key-within c.args.fields.now c.args.key.now (length c.args.maps.now) c.index-fields-last.result c.requires.key g c.index-fields-last.is;
      rules = c.requires.ends c.index-fields-last.result ∙ count;
      room = omega (arith, c.walk_fields-window.ensures.length);
      window = c.walk_fields-window.ensures.window;
    }

pub returns-clause-led : goal.returns-clause-led
returns-clause-led c = λ kinds es s m.
    let g : length c.args.maps.now < length c.args.fields.now = omega (arith, c.requires.shaped.one_fewer) in
    let few = c.requires.shaped.few (length c.args.maps.now) c.index-fields-last.result g in
    let count = field-count c.args.fields.now (length c.args.maps.now) c.index-fields-last.result c.index-fields-last.result g c.index-fields-last.is in
    let up : length c.args.maps.now ≡ (length c.args.maps.now - 1) + 1 = omega arith in
    fused-led kinds es c.args.key.now (length c.args.maps.now - 1) (length c.args.maps.now) c.args.now c.index-fields-last.result c.args.ends.now.items c.walk_fields-window.new.row.bits c.lead_from.result up
    (field-stands kinds es c.args.fields.now (length c.args.maps.now) c.index-fields-last.result s g c.index-fields-last.is) (omega (arith, c.walk_fields-window.ensures.length))
    (c.walk_fields-window.ensures.reached kinds es s m) c.lead_from.ensures.led

pub returns-clause-row : goal.returns-clause-row
returns-clause-row c = record { long = c.lead_from.ensures.len ∙ c.walk_fields-window.ensures.length; full = c.lead_from.ensures.spare ∙ c.walk_fields-window.ensures.spare; clear = c.lead_from.ensures.clear }
