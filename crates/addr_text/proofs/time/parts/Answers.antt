use Rattle.std.proofs.Common.{◌≡◌, [], drop, sym, ap, ◌∙◌}
use Rattle.std.proofs.Math.ListN.{drop_of_length-le}
use Rattle.addr_text.specs.TimesRead.{time_parts}
use Rattle.addr_text.specs.TimesView.{unit_views}
use Rattle.addr_text.proofs.TimeLaws.{parts_of-end, parts_of-bad}
use Rattle.addr_text.proofs.time.parts.Goals as goal

pub returns-then-is_empty : goal.returns-then-is_empty
returns-then-is_empty c =
    let none_left : drop c.loop-unit.unit-index c.args.units.now ≡ [] = drop_of_length-le c.args.units.now c.loop-unit-test.false in
    sym (c.loop-unit.invariant.0 ∙ ap (λ us. time_parts (unit_views us) c.loop-unit.reading.total c.loop-unit.reading.rest.now) none_left ∙ parts_of-end _ _ (sym c.is_empty.ensures ∙ c.if-is_empty.true))

pub returns-else-is_empty : goal.returns-else-is_empty
returns-else-is_empty c =
    let none_left : drop c.loop-unit.unit-index c.args.units.now ≡ [] = drop_of_length-le c.args.units.now c.loop-unit-test.false in
    sym (c.loop-unit.invariant.0 ∙ ap (λ us. time_parts (unit_views us) c.loop-unit.reading.total c.loop-unit.reading.rest.now) none_left ∙ parts_of-bad _ _ (sym c.is_empty.ensures ∙ c.if-is_empty.false))
