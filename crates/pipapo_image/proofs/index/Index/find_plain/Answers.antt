use Rattle.std.proofs.Common.{◌≡◌, ◌-◌, ◌≤◌, sym, ◌∙◌, ap, subst, arith, length}
use Rattle.set_tables.specs.Rows.{led_to}
use Rattle.set_tables.specs.Core.{row_of}
use Rattle.set_tables.specs.Tables.{last_ends}
use Rattle.set_tables.specs.Search.{key_tests}
use Rattle.set_tables.proofs.SearchLaws.{led-finds}
use Rattle.pipapo_image.specs.Index.Walk.{IsKeyOf}
use Rattle.pipapo_image.proofs.index.Index.find_plain.Goals as goal

pub reach-requires : goal.reach-requires
reach-requires c = record {
  shaped = c.requires.shaped;
  key = subst (λ z. IsKeyOf c.args.self.now.fields z) (sym c.as_slice.ensures) c.requires.key;
  room = c.scratch.invariant.0;
  next_room = c.scratch.invariant.1;
}

pub returns : goal.returns
returns c = λ kinds es is parts.
    let some : 1 ≤ length kinds = omega (arith, is.maps.one_fewer) in
    let row : c.reach.new.row.bits ≡ row_of kinds es (key_tests c.args.key.now) (length kinds - 1) =
    c.reach.ensures.row kinds es is ∙ ap (λ z. row_of kinds es (key_tests z) (length kinds - 1)) c.as_slice.ensures in
    c.led.ensures
    ∙ ap (λ z. led_to z c.reach.new.row.bits c.args.now) is.ends
    ∙ ap (λ z. led_to (last_ends kinds es) z c.args.now) row
    ∙ led-finds kinds es c.args.key.now c.args.now some (c.requires.key.one_each ∙ is.fields.one_each) parts
