-- The figures of a field's table are those of its rules.
use Rattle.std.proofs.Common.{◌≡◌, refl, sym, ◌∙◌, ap, subst, ℕ, ◌<◌, List, length, get_or, slice_get, Some}
use Rattle.std.proofs.lemmas.Option.{get_or_from_slice_get}
use Rattle.script_laws.proofs.Lists.{item-at}
use Rattle.lookup_table.specs.declared.table.FieldTable.{FieldTable}
use Rattle.pipapo_image.specs.declared.index.Index.{Index}
use Rattle.pipapo_image.specs.Index.{IsIndexOf}
use Rattle.pipapo_image.specs.Index.Standing.{IsTableOf}
use Rattle.set_model.specs.declared.element.Element.{Element}
use Rattle.set_model.specs.declared.kind.Kind.{Kind}
use Rattle.set_model.specs.Kind.{bits_of}
use Rattle.set_model.specs.SetState.{field_rules}
use Rattle.lookup_table.specs.Width.{width_of}
use Rattle.stat_answer.specs.declared.figures.FieldFigures.{FieldFigures}
use Rattle.stat_answer.specs.Figures.{bucket_bytes, figures_of, kind_bits, field_figures}

-- the figures of a table
abbrev table_figures : ℕ → ℕ → ℕ → FieldFigures
table_figures width bits rules = record { width = width; rules = rules; bytes = bucket_bytes width bits rules }

of-table : (kinds : List Kind) (es : List Element) (f : ℕ) (kind : Kind) (t : FieldTable) → slice_get kinds f ≡ Some kind → IsTableOf kind (field_rules kinds f es) t → table_figures t.width t.bits t.rules ≡ field_figures kinds es f
of-table kinds es f kind t at is =
    let n = length (field_rules kinds f es) in
    ap (table_figures t.width t.bits) (sym is.stands.one_each)
    ∙ ap (λ b. table_figures t.width b n) is.bits
    ∙ ap (λ w. table_figures w (bits_of kind) n) is.width
    ∙ ap (λ o. figures_of (kind_bits o) n) (sym at)

-- The figures of field f.
pub figures-are : (kinds : List Kind) (es : List Element) (index : Index) (f : ℕ) (t : FieldTable) (figures : FieldFigures) → IsIndexOf kinds es index → f < length kinds → slice_get index.fields f ≡ Some t
    → figures ≡ record { width = t.width; rules = t.rules; bytes = bucket_bytes t.width t.bits t.rules } → figures ≡ field_figures kinds es f
figures-are kinds es index f t figures i within there is =
    let kind = item-at kinds f within in
    let k : get_or kinds f kind.0 ≡ kind.0 = get_or_from_slice_get kinds f kind.0 kind.0 kind.1 in
    let u : get_or index.fields f t ≡ t = get_or_from_slice_get index.fields f t t there in
    let table : IsTableOf (get_or kinds f kind.0) (field_rules kinds f es) (get_or index.fields f t) = i.fields.each f kind.0 t within in
    is ∙ of-table kinds es f kind.0 t kind.1 (subst (λ (z : Kind). IsTableOf z (field_rules kinds f es) t) k (subst (λ (z : FieldTable). IsTableOf (get_or kinds f kind.0) (field_rules kinds f es) z) u table))
