use Rattle.std.proofs.Common.{◌/◌, ◌%◌, arith}
use Rattle.bit_rows.proofs.Places.{joined-places}
use Rattle.bit_rows.proofs.words.word_from.Goals as goal

pub returns : goal.returns
returns c = λ k h. joined-places c.args.words.now c.args.from (c.args.from / 64) (c.args.from % 64) k c.joined.result (omega arith) (omega arith) h (c.type_inv.words (c.args.from / 64)).fits
    (rw (c.word_at.ensures, c.word_at-2.ensures) at (c.joined.ensures k h))
