use Rattle.std.proofs.Common.{rules}
use Rattle.fused_lookup.proofs.BitLaws.{no-bit, next-bit}
use Rattle.fused_lookup.proofs.bits.next_bit.Goals as goal

pub returns-then-left-eq0 : goal.returns-then-left-eq0
returns-then-left-eq0 c = λ k low high. no-bit c.args.word c.args.from c.if-left-eq0.true k low

pub returns : goal.returns
returns c = next-bit c.args.word c.args.from _ c.ranges.word.fits c.if-left-eq0.false (search rules)
