use Rattle.std.proofs.lemmas.Result.{on_ok_weaker}
use Rattle.std.proofs.Common.{refl}
use Rattle.key_answer.proofs.AnswerLaws.{origin-parts}
use Rattle.key_answer.proofs.answer.write_origin.Goals as goal

pub returns : goal.returns
returns c =
    on_ok_weaker c.write_line.result
    (λ three. origin-parts c.args.set.now c.args.now c.args.lines.now c.args.out.now.items _ _ _ c.args.element.now _ refl c.in_ok-append_pieces.ensures.ok c.in_ok-write_element.ensures.ok three)
    c.write_line.ensures.ok
