use Rattle.std.proofs.Common.{arith}
use Rattle.addr_text.proofs.IntervalLaws.{bits_of-le}
use Rattle.addr_text.proofs.interval.prefix.Goals as goal

pub overflow_cast-fixed : goal.overflow_cast-fixed
overflow_cast-fixed c = omega (arith, c.in_ok-fixed.ensures.within, c.from.ensures, c.bits-bits.ensures, bits_of-le c.args.kind)

pub block-requires-clause-fixed : goal.block-requires-clause-fixed
block-requires-clause-fixed c = omega (arith, c.in_ok-fixed.ensures.within, c.from.ensures)
