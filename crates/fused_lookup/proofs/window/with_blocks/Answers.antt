use Rattle.fused_lookup.proofs.WindowLaws.{blocks-none, blocks-more}
use Rattle.fused_lookup.proofs.window.with_blocks.Goals as goal

pub numbers-init : goal.numbers-init
numbers-init c = blocks-none c.args.touched c.args.first

pub numbers-preserved : goal.numbers-preserved
numbers-preserved c = blocks-more c.args.touched c.args.first c.numbers.b c.numbers.touched c.numbers.invariant
