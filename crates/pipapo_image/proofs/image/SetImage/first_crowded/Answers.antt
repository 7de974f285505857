use Rattle.std.proofs.Common.{◌∙◌, ap, arith, length}
use Rattle.set_model.specs.SetState.{State, crowded_field}
use Rattle.std.specs.Prelude.{find}
use Rattle.std.specs.List.{range_with_len}
use Rattle.pipapo_image.specs.Index.Built.{Built}
use Rattle.pipapo_image.specs.Index.Grow.{IsColumn, counts, is_over}
use Rattle.pipapo_image.proofs.ShapeLaws.{image-shaped}
use Rattle.pipapo_image.proofs.ImageGrowth.{crowded-same}
use Rattle.pipapo_image.proofs.image.SetImage.first_crowded.Goals as goal

pub crowded_field-requires : goal.crowded_field-requires
crowded_field-requires c =
    let i = c.self.invariant in
    let e = c.as_slice.ensures in
    let n = ap length e in
    let m = i.tables.fields.one_each in
    let columns : Built (IsColumn c.self.inside.kinds c.args.parts.now) c.args.columns.now (length c.self.inside.kinds) = rw (← c.self.view_is) at c.requires in
    let b = columns.one_each in
    let shaped = image-shaped c.self.inside.kinds c.self.inside.elements c.self.inside.index i in
    record {
      columns = omega arith;
      few = omega (arith, i.few_kinds);
      rules = rw e shaped.walk.few;
    }

pub returns : goal.returns
returns c =
    let s : State = record { kinds = c.self.inside.kinds; size = c.self.inside.size; disjoint = c.self.inside.disjoint; elements = c.self.inside.elements; next = c.self.inside.next } in
    let columns : Built (IsColumn c.self.inside.kinds c.args.parts.now) c.args.columns.now (length c.self.inside.kinds) = rw (← c.self.view_is) at c.requires in
    c.crowded_field.ensures
    ∙ ap (λ z. find (is_over (counts z) c.args.columns.now) (range_with_len 0 (length z))) c.as_slice.ensures
    ∙ crowded-same s c.self.inside.index c.args.parts.now c.args.columns.now c.self.invariant columns
    ∙ ap (λ t. crowded_field t c.args.parts.now) c.self.view_is
