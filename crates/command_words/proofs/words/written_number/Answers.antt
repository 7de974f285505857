use Rattle.std.proofs.Common.{arith, sym}
use Rattle.command_words.proofs.CommandWords.{number-sound, number-there}
use Rattle.command_words.proofs.words.written_number.Goals as goal

pub unreachable-requires : goal.unreachable-requires
unreachable-requires c = number-there c.args.low c.args.high c.args.word.now c.requires.0 (omega (arith, c.ranges.high.fits)) c.requires.1 c.in-None.ensures

pub returns : goal.returns
returns c = number-sound c.args.low c.args.high c.args.word.now c.in-Some.n (sym c.in-Some.ensures)
