use Rattle.std.proofs.Common.{◌+◌, ◌*◌, arith}
use Rattle.bit_rows.proofs.Places.{joined-places}
use Rattle.bit_rows.proofs.words.word_within.Goals as goal

pub returns : goal.returns
returns c = λ k h. joined-places c.args.words.now (64 * c.args.w + c.args.by) c.args.w c.args.by k c.joined.result (omega arith) (omega arith) h
    (c.type_inv.words c.args.w).fits (c.joined.ensures k h)
