use Rattle.std.proofs.Common.{ap, arith}
use Rattle.lookup_table.proofs.LineLaws.{rows-rooms}
use Rattle.lookup_table.proofs.lines.Lines.room.Goals as goal

pub returns-clause-rows : goal.returns-clause-rows
returns-clause-rows c = rw (← ap (λ v. v.rows) c.self.view_is) (rows-rooms c.self.inside.pages.items c.self.inside.len c.self.inside.count _ c.self.invariant.lines.within (omega arith))
