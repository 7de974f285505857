use Rattle.std.proofs.Common.{codes}
use Rattle.set_model.specs.Text.{numbered}
use Rattle.text_pieces.specs.Pieces.{thread_front}
use Rattle.text_pieces.proofs.PartLaws.{on_err}
use Rattle.text_pieces.proofs.TwoParts.{first_part}
use Rattle.text_pieces.proofs.piece.append_packet.Goals as goal

pub returns-in_err-append_numbered-clause-err : goal.returns-in_err-append_numbered-clause-err
returns-in_err-append_numbered-clause-err c =
    on_err c.from_residual.result (first_part c.args.out.now.items c.append_numbered.new.out.items (numbered (codes "packet") c.args.line.now.packet) (thread_front c.args.line.now) c.in_err-append_numbered.ensures.err)
