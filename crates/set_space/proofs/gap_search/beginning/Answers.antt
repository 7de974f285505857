use Rattle.std.proofs.Common.{arith, ◌<◌, length}
use Rattle.set_space.specs.Staying.{staying}
use Rattle.set_space.proofs.GapLaws.{gaps_and_others}
use Rattle.set_space.proofs.gap_search.beginning.Goals as goal

pub returns-else-near-len-clause-within : goal.returns-else-near-len-clause-within
returns-else-near-len-clause-within c =
    let inside : c.args.i < length (staying c.args.lazy.now.passed c.args.lazy.now.image).elements = c.requires.element in
    let both = gaps_and_others c.args.lazy.now.passed c.args.lazy.now.image in
    omega (arith, both, inside)
