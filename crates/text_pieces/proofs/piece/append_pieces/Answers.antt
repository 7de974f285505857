use Rattle.text_pieces.specs.Pieces.{piece_text}
use Rattle.text_pieces.proofs.PartLaws.{on_err, item_part}
use Rattle.text_pieces.proofs.piece.append_pieces.Goals as goal

pub returns-in_err-append_piece-clause-err : goal.returns-in_err-append_piece-clause-err
returns-in_err-append_piece-clause-err c =
    on_err c.from_residual.result (item_part piece_text c.args.pieces.now c.loop-piece.piece-index c.piece-item.result c.args.out.now.items c.loop-piece.out.items c.append_piece.new.out.items
    c.loop-piece-test.true c.piece-item.is c.loop-piece.invariant c.in_err-append_piece.ensures.err)
