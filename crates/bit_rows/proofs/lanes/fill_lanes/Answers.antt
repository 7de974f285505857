use Rattle.bit_rows.proofs.Written.{written-splat}
use Rattle.bit_rows.proofs.lanes.fill_lanes.Goals as goal

pub returns-clause-written : goal.returns-clause-written
returns-clause-written c = written-splat c.args.value c.args.w c.args.words.now c.requires
