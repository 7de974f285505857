use Rattle.fused_lookup.proofs.BitLaws.{run-ends, run-through}
use Rattle.fused_lookup.proofs.bits.run_end.Goals as goal

pub returns-in-Some : goal.returns-in-Some
returns-in-Some c = run-ends c.args.word c.args.from _ c.ranges.word.fits c.requires.set c.in-Some.ensures

pub returns-in-None : goal.returns-in-None
returns-in-None c = run-through c.args.word c.args.from c.ranges.word.fits c.requires.within c.in-None.ensures
