use Rattle.std.proofs.Common.{◌≡◌, ap, ◌∙◌, ◌++◌, List, length}
use Rattle.std.proofs.lemmas.Result.{on_ok_weaker}
use Rattle.set_model.specs.declared.element.Element.{Element}
use Rattle.stat_answer.specs.Figures.{all_bytes}
use Rattle.stat_answer.specs.StatText.{set_line, field_lines, total_line}
use Rattle.stat_answer.proofs.FigureLaws.{three-parts}
use Rattle.stat_answer.proofs.text.write_set.Goals as goal

pub returns : goal.returns
returns c =
    let d = c.args.set.now in
    let kinds = c.args.image.now.kinds in
    let es = c.args.image.now.elements in
    on_ok_weaker c.append_pieces.result
    (λ last. three-parts c.args.out.now.items c.write_set_line.new.out.items c.write_fields.new.out.items _ (set_line c.args.now d es) (field_lines kinds es (length kinds)) (total_line (all_bytes kinds es))
    (c.in_ok-write_set_line.ensures ∙ ap (λ (z : List Element). c.args.out.now.items ++ set_line c.args.now d z) c.elements.ensures.same)
    c.in_ok-bytes.ensures.text
    (last ∙ ap (λ n. c.write_fields.new.out.items ++ total_line n) c.in_ok-bytes.ensures.bytes))
    c.append_pieces.ensures.ok
