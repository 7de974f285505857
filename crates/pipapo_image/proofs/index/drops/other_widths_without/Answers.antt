use Rattle.std.proofs.Common.{◌+◌, ℕ, sym, ◌∙◌, subst, get_or, Option}
use Rattle.std.proofs.lemmas.List.{get_or_default}
use Rattle.lookup_table.specs.declared.table.FieldTable.{FieldTable}
use Rattle.pipapo_image.specs.Index.Built.{Built}
use Rattle.pipapo_image.specs.Index.Runs.{run_at}
use Rattle.pipapo_image.specs.Index.Shrink.{IsOtherWithout}
use Rattle.pipapo_image.proofs.BuiltLaws.{built-more}
use Rattle.pipapo_image.proofs.index.drops.other_widths_without.Goals as goal

pub fields-preserved : goal.fields-preserved
fields-preserved c =
    let P : ℕ → Option FieldTable → Type 0 = λ f o. (t : FieldTable) → IsOtherWithout (run_at c.args.runs.now f) (get_or c.args.fields.now f t) o in
    let o = c.in_ok-other_width.field-0 in
    subst (λ z. Built P z (c.fields.f + 1)) (sym c.in_ok-push.ensures.items)
    (built-more P c.fields.others.items c.fields.f o c.fields.invariant
    (λ t. subst (λ z. IsOtherWithout (run_at c.args.runs.now c.fields.f) z o) (c.index-fields-f.is ∙ get_or_default c.args.fields.now c.fields.f c.index-fields-f.result t c.fields-test.true) c.in_ok-other_width.ensures))
