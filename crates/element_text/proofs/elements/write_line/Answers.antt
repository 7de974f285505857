use Rattle.std.proofs.Common.{◌∙◌, ap, sym, ◌++◌, ℕ, Option, append-nil, option_map}
use Rattle.std.proofs.lemmas.Result.{on_ok_weaker}
use Rattle.std.specs.Borrow.{Bor}
use Rattle.element_text.specs.ElementText.{line_text}
use Rattle.element_text.proofs.JoinLaws.{got-item}
use Rattle.element_text.proofs.elements.write_line.Goals as goal

pub returns-in-None-clause-ok : goal.returns-in-None-clause-ok
returns-in-None-clause-ok c =
    let got = got-item c.args.lines.now c.args.id c.get.result c.get.ensures.lookup.0 c.get.ensures.lookup.1 in
    sym (append-nil c.args.out.now.items) ∙ ap (λ (o : Option ℕ). c.args.out.now.items ++ line_text o) (ap (λ (o : Option (Bor ℕ)). option_map (λ n. n.now) o) (sym c.in-None.is) ∙ got)

pub returns-in-Some-clause-ok : goal.returns-in-Some-clause-ok
returns-in-Some-clause-ok c =
    let got = got-item c.args.lines.now c.args.id c.get.result c.get.ensures.lookup.0 c.get.ensures.lookup.1 in
    on_ok_weaker c.append_pieces.result
    (λ wrote. wrote ∙ ap (λ (o : Option ℕ). c.args.out.now.items ++ line_text o) (ap (λ (o : Option (Bor ℕ)). option_map (λ n. n.now) o) (sym c.in-Some.is) ∙ got))
    c.append_pieces.ensures.ok
