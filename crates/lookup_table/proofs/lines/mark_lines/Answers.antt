use Rattle.std.proofs.Common.{arith}
use Rattle.lookup_table.proofs.LineLaws.{lines-none, lines-more}
use Rattle.lookup_table.proofs.lines.mark_lines.Goals as goal

pub lines-init : goal.lines-init
lines-init c = record { own = c.requires.own; marked = lines-none _ _ _ _ }

pub lines-preserved : goal.lines-preserved
lines-preserved c = record { own = c.set_bit.ensures.own; marked = lines-more _ _ _ _ _ _ _ (omega arith) c.lines.invariant.marked c.set_bit.ensures.marked }
