use Rattle.std.proofs.Common.{◌+◌, ℕ, sym, ◌∙◌, subst, get_or}
use Rattle.std.proofs.lemmas.List.{get_or_default}
use Rattle.lookup_table.specs.declared.table.FieldTable.{FieldTable}
use Rattle.pipapo_image.specs.Index.Built.{Built}
use Rattle.pipapo_image.specs.Index.Grow.{IsKept}
use Rattle.pipapo_image.proofs.BuiltLaws.{built-more}
use Rattle.pipapo_image.proofs.index.copy.fields_again.Goals as goal

pub fields-preserved : goal.fields-preserved
fields-preserved c =
    let P : ℕ → FieldTable → Type 0 = λ f t. (d : FieldTable) → IsKept (get_or c.args.fields.now f d) t in
    let t = c.in_ok-table_again.field-0 in
    subst (λ z. Built P z (c.fields.f + 1)) (sym c.in_ok-push.ensures.ok)
    (built-more P c.fields.others c.fields.f t c.fields.invariant
    (λ d. subst (λ z. IsKept z t) (c.index-fields-f.is ∙ get_or_default c.args.fields.now c.fields.f c.index-fields-f.result d c.fields-test.true) c.in_ok-table_again.ensures))
