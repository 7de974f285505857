use Rattle.std.proofs.Common.{sym, ◌∙◌, ap, length}
use Rattle.lookup_table.proofs.LineLaws.{rows-length}
use Rattle.lookup_table.proofs.lines.Lines.len.Goals as goal

pub returns : goal.returns
returns c = sym (ap (λ v. length v.rows) (sym c.self.view_is) ∙ rows-length c.self.inside.pages.items c.self.inside.len c.self.inside.count)
