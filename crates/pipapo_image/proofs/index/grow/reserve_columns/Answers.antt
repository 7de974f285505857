use Rattle.std.proofs.Common.{◌≡◌, ◌<◌, sym, ◌∙◌, ap, subst, length, get_or}
use Rattle.set_model.proofs.LentLaws.{written_whole}
use Rattle.set_tables.specs.Search.{of_field}
use Rattle.pipapo_image.specs.Index.Grow.{HasSpare}
use Rattle.pipapo_image.proofs.index.grow.reserve_columns.Goals as goal

pub returns-clause-room : goal.returns-clause-room
returns-clause-room c = λ f t h.
    let value = c.as_mut_slice.ensures.value in
    let long : length c.reserve_fields.new.fields ≡ length c.args.fields.now = c.in_ok-reserve_fields.ensures.kept.len ∙ ap length value in
    let back = written_whole c.args.fields.now c.reserve_fields.new.fields long in
    let inside : f < length c.as_mut_slice.result.now = subst (λ z. f < length z) (sym value) h in
    subst (λ z. HasSpare (length (of_field c.args.columns.now f)) (get_or z f t)) (sym back) (c.in_ok-reserve_fields.ensures.room f t inside)
