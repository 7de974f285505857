use Rattle.std.proofs.Common.{ℕ, map, ◌≡◌, refl, sym, ◌∙◌, ap, ◌+◌, ◌++◌, append_assoc, arith, rules}
use Rattle.std.specs.List.{sum_by, range_with_len}
use Rattle.std.proofs.lemmas.List.FromFn.{sum_by-map-range_with_len_more}
use Rattle.stat_answer.specs.declared.figures.FieldFigures.{FieldFigures}
use Rattle.stat_answer.specs.Figures.{field_figures}
use Rattle.stat_answer.specs.StatText.{field_line, field_lines}
use Rattle.stat_answer.proofs.FigureLaws.{lines-next}
use Rattle.stat_answer.proofs.text.write_fields.Goals as goal

pub fields-preserved : goal.fields-preserved
fields-preserved c =
    let kinds = c.args.image.now.kinds in
    let es = c.args.image.now.elements in
    let f = c.fields.f in
    let old = c.args.out.now.items in
    let so_far : ℕ = sum_by (λ (x : FieldFigures). x.bytes) (map (field_figures kinds es) (range_with_len 0 f)) in record {
      text =
          c.in_ok-write_field.ensures ∙ ap (λ m. m ++ field_line f c.figures_at-figures.result) c.fields.invariant.text
          ∙ append_assoc old (field_lines kinds es f) (field_line f c.figures_at-figures.result)
          ∙ ap (λ t. old ++ t) (ap (λ (x : FieldFigures). field_lines kinds es f ++ field_line f x) c.figures_at-figures.ensures ∙ sym (lines-next kinds es f));
      bytes =
          ap (λ n. n + c.from-bytes.result) c.fields.invariant.bytes
          ∙ ap (λ n. so_far + n) (c.from-bytes.ensures ∙ ap (λ (x : FieldFigures). x.bytes) c.figures_at-figures.ensures)
          ∙ sym (sum_by-map-range_with_len_more (λ (x : FieldFigures). x.bytes) (field_figures kinds es) 0 f f (omega arith));
      small = omega (arith, c.from-bytes.ensures, c.from-bytes.type_inv, c.fields.invariant.small);
    }
