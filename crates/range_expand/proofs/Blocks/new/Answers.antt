use Rattle.std.proofs.Common.{rules}
use Rattle.range_expand.proofs.SplitLaws.{blocks-held, blocks-within}
use Rattle.range_expand.proofs.CountLaws.{length-few, length-some, length-whole}
use Rattle.range_expand.proofs.Blocks.new.Goals as goal

pub returns-clause-held : goal.returns-clause-held
returns-clause-held c = let held = blocks-held c.args.low c.args.high c.args.bits in search rules

pub returns-clause-within : goal.returns-clause-within
returns-clause-within c = let within = blocks-within c.args.low c.args.high c.args.bits c.requires in search rules

pub returns-clause-some : goal.returns-clause-some
returns-clause-some c = let some = length-some c.args.low c.args.high c.args.bits c.requires.order in search rules

pub returns-clause-few : goal.returns-clause-few
returns-clause-few c = let few = length-few c.args.low c.args.high c.args.bits c.requires in search rules

pub returns-clause-whole : goal.returns-clause-whole
returns-clause-whole c = let whole = length-whole c.args.low c.args.high c.args.bits c.requires in search rules
