use Rattle.fused_lookup.specs.Window.{HasBlocks}
use Rattle.fused_lookup.proofs.window.with_blocks.Given as goal

abbrev pub invariant-numbers : goal.invariant-numbers
invariant-numbers l = HasBlocks l.initial.touched l.first l.b l.touched
