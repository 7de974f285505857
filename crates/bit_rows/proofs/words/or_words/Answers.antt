use Rattle.std.proofs.Common.{◌||◌, bit_or, arith}
use Rattle.bit_rows.proofs.Bits.{bit-or}
use Rattle.bit_rows.proofs.Places.{zipped-places}
use Rattle.bit_rows.proofs.Written.{written-until}
use Rattle.bit_rows.proofs.words.or_words.Goals as goal

pub returns-clause-places : goal.returns-clause-places
returns-clause-places c =
    zipped-places bit_or (λ p q. p || q) _ _ _ _ bit-or (written-until _ _ _ _ _ _ (omega arith) c.words.invariant)
