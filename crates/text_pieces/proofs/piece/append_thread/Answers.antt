use Rattle.std.proofs.Common.{◌≡◌, ◌∙◌, ap, subst, ◌++◌, codes, append_assoc, OnOk, OnErr}
use Rattle.set_model.specs.Text.{numbered}
use Rattle.text_pieces.specs.Appends.{AppendsPart}
use Rattle.text_pieces.proofs.PartLaws.{on_err}
use Rattle.text_pieces.proofs.TwoParts.{first_part, second_part, ok-with, err-with}
use Rattle.text_pieces.proofs.piece.append_thread.Goals as goal

pub returns-in_err-append_numbered-clause-err : goal.returns-in_err-append_numbered-clause-err
returns-in_err-append_numbered-clause-err c =
    subst (λ thread. OnErr c.from_residual.result (AppendsPart c.args.out.now.items c.append_numbered.new.out.items (numbered (codes " thread") thread ++ numbered (codes " generation") c.args.line.now.generation))) c.from.ensures
    (on_err c.from_residual.result (first_part c.args.out.now.items c.append_numbered.new.out.items (numbered (codes " thread") c.from.result) (numbered (codes " generation") c.args.line.now.generation) c.in_err-append_numbered.ensures.err))

pub returns-clause-ok : goal.returns-clause-ok
returns-clause-ok c =
    subst (λ thread. OnOk c.append_numbered-2.result (c.append_numbered-2.new.out.items ≡ c.args.out.now.items ++ (numbered (codes " thread") thread ++ numbered (codes " generation") c.args.line.now.generation))) c.from.ensures
    (ok-with c.append_numbered-2.result
    (λ e. e ∙ ap (λ t. t ++ numbered (codes " generation") c.args.line.now.generation) c.in_ok-append_numbered.ensures.ok ∙ append_assoc c.args.out.now.items (numbered (codes " thread") c.from.result) (numbered (codes " generation") c.args.line.now.generation))
    c.append_numbered-2.ensures.ok)

pub returns-clause-err : goal.returns-clause-err
returns-clause-err c =
    subst (λ thread. OnErr c.append_numbered-2.result (AppendsPart c.args.out.now.items c.append_numbered-2.new.out.items (numbered (codes " thread") thread ++ numbered (codes " generation") c.args.line.now.generation))) c.from.ensures
    (err-with c.append_numbered-2.result
    (second_part c.args.out.now.items c.append_numbered.new.out.items c.append_numbered-2.new.out.items (numbered (codes " thread") c.from.result) (numbered (codes " generation") c.args.line.now.generation) c.in_ok-append_numbered.ensures.ok)
    c.append_numbered-2.ensures.err)
