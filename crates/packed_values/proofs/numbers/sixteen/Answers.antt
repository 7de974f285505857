use Rattle.std.proofs.Common.{arith}
use Rattle.std.proofs.lemmas.Grind.{common_steps}
use Rattle.packed_values.proofs.BigEndian.{in_two}
use Rattle.packed_values.proofs.numbers.sixteen.Goals as goal

pub returns : goal.returns
returns c = grind (arith, common_steps, in_two c.args.bytes.now 8 8 c.requires)
