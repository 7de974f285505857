use Rattle.std.proofs.Common.{◌&&◌, bit_and, arith}
use Rattle.bit_rows.proofs.Bits.{bit-and}
use Rattle.bit_rows.proofs.Places.{zipped-places}
use Rattle.bit_rows.proofs.Written.{written-until}
use Rattle.bit_rows.proofs.words.and_words.Goals as goal

pub returns-clause-places : goal.returns-clause-places
returns-clause-places c =
    zipped-places bit_and (λ p q. p && q) _ _ _ _ bit-and (written-until _ _ _ _ _ _ (omega arith) c.words.invariant)
