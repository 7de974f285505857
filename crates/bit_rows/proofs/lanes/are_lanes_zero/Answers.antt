use Rattle.std.proofs.Common.{rules, tests}
use Rattle.bit_rows.proofs.Written.{lanes-zero}
use Rattle.bit_rows.proofs.lanes.are_lanes_zero.Goals as goal

pub returns : goal.returns
returns c = λ e. lanes-zero c.args.w c.args.words.now (search (rules, tests))
