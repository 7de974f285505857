use Rattle.std.proofs.Common.{arith}
use Rattle.set_space.proofs.GapLaws.{gaps_few}
use Rattle.set_space.proofs.gap_search.has_few_before.Goals as goal

pub overflow_sub-result : goal.overflow_sub-result
overflow_sub-result c = let few = gaps_few c.args.lazy.now.passed c.args.lazy.now.image c.args.place in
    let is = c.gaps_before.ensures c.args.lazy.now.passed c.args.lazy.now.image c.requires.gaps c.requires.within in omega (arith, few, is)
