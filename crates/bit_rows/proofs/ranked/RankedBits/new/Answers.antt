use Rattle.std.proofs.Common.{refl}
use Rattle.bit_rows.specs.Words.{first_bits}
use Rattle.bit_rows.proofs.ranked.RankedBits.new.Goals as goal

pub returns : goal.returns
unfolding first_bits
returns c = refl
