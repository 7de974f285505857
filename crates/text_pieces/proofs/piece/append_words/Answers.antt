use Rattle.text_pieces.proofs.PartLaws.{on_err, item_part_at}
use Rattle.text_pieces.proofs.piece.append_words.Goals as goal

pub returns-in_err-append-clause-err : goal.returns-in_err-append-clause-err
returns-in_err-append-clause-err c =
    on_err c.from_residual.result (item_part_at (λ word. word.now) c.args.words.now c.loop-word.word-index _ c.args.out.now.items c.loop-word.out.items c.append.new.out.items
    c.loop-word-test.true c.loop-word.invariant c.in_err-append.ensures.err)
