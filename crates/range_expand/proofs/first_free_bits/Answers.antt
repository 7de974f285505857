use Rattle.std.proofs.Common.{◌≡◌, ◌<◌, ◌^◌, arith}
use Rattle.set_model.specs.Blocks.{free_bits}
use Rattle.range_expand.proofs.FirstBlock.{free-is, first-within}
use Rattle.range_expand.proofs.first_free_bits.Goals as goal

pub returns-clause-greatest : goal.returns-clause-greatest
returns-clause-greatest c =
    let small : c.args.low < 2 ^ 128 = omega arith in
    let free = free-is c.args.low c.args.high c.args.bits c.log2_of_size.result c.requires small c.log2_of_size.ensures.below c.log2_of_size.ensures.above c.log2_of_size.ensures.most in
    cc

pub returns-clause-fits : goal.returns-clause-fits
returns-clause-fits c =
    let greatest : c.min-2.result ≡ free_bits c.args.low c.args.high c.args.bits = returns-clause-greatest c in
    rw greatest (first-within c.args.low c.args.high c.args.bits c.requires.order)
