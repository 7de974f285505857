use Rattle.std.proofs.Common.{◌≡◌, ◌+◌, ◌<◌, sym, ◌∙◌, ap, subst, arith, length, get_or, ℕ, Option}
use Rattle.std.proofs.lemmas.List.{get_or_default}
use Rattle.lookup_table.specs.declared.table.FieldTable.{FieldTable}
use Rattle.set_tables.specs.Search.{of_field}
use Rattle.pipapo_image.specs.Index.Built.{Built}
use Rattle.pipapo_image.specs.Index.Grow.{IsOther}
use Rattle.pipapo_image.proofs.BuiltLaws.{built-more}
use Rattle.pipapo_image.proofs.GrowLaws.{list-at}
use Rattle.pipapo_image.proofs.index.grow.other_widths.Goals as goal

pub fields-preserved : goal.fields-preserved
fields-preserved c =
    let g : c.fields.f < length c.args.columns.now = omega (arith, c.requires.columns, c.fields-test.true) in
    let n : c.len-n.result ≡ length (of_field c.args.columns.now c.fields.f) = c.len-n.ensures ∙ sym (ap length (list-at c.args.columns.now c.fields.f c.index-columns-f.result g c.index-columns-f.is)) in
    let P : ℕ → Option FieldTable → Type 0 = λ f o. (t : FieldTable) → IsOther (length (of_field c.args.columns.now f)) (get_or c.args.fields.now f t) o in
    let o = c.in_ok-other_width.field-0 in
    subst (λ z. Built P z (c.fields.f + 1)) (sym c.in_ok-push.ensures.items)
    (built-more P c.fields.others.items c.fields.f o c.fields.invariant
    (λ t. subst (λ z. IsOther (length (of_field c.args.columns.now c.fields.f)) z o) (c.index-fields-f.is ∙ get_or_default c.args.fields.now c.fields.f c.index-fields-f.result t c.fields-test.true)
    (subst (λ m. IsOther m c.index-fields-f.result o) n c.in_ok-other_width.ensures)))

pub returns : goal.returns
returns c =
    let e : c.fields.f ≡ length c.args.fields.now = omega arith in
    let P : ℕ → Option FieldTable → Type 0 = λ f o. (t : FieldTable) → IsOther (length (of_field c.args.columns.now f)) (get_or c.args.fields.now f t) o in
    subst (λ n. Built P c.fields.others.items n) e c.fields.invariant
