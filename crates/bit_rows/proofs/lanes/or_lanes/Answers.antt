use Rattle.std.proofs.Common.{bit_or, rules}
use Rattle.bit_rows.proofs.Written.{written-zip}
use Rattle.bit_rows.proofs.lanes.or_lanes.Goals as goal

pub returns-clause-written : goal.returns-clause-written
returns-clause-written c = record {
  word = λ k. let written = (written-zip bit_or c.args.w c.args.words.now c.args.other.now c.requires.here c.requires.there).word k in search rules;
}
