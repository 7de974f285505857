use Rattle.std.proofs.Common.{ap, ◌*◌, arith}
use Rattle.lookup_table.specs.Lines.{Lined}
use Rattle.lookup_table.proofs.LineLaws.{room-page, page-cells}
use Rattle.lookup_table.proofs.lines.Lines.page.Goals as goal

pub index-requires : goal.index-requires
index-requires c =
    let h = room-page c.self.inside.pages.items c.self.inside.len c.self.inside.count (512 * c.args.p) c.self.invariant.lines.within (rw (← ap (λ (v : Lined). v.rows) c.self.view_is) at c.requires) in
    omega arith

pub returns : goal.returns
returns c =
    let h = room-page c.self.inside.pages.items c.self.inside.len c.self.inside.count (512 * c.args.p) c.self.invariant.lines.within (rw (← ap (λ (v : Lined). v.rows) c.self.view_is) at c.requires) in
    rw (← ap (λ (v : Lined). v.rows) c.self.view_is) (page-cells c.self.inside.pages.items c.self.inside.len c.self.inside.count c.args.p c.index.result.now c.as_slice.result.now c.self.invariant.lines (omega arith) c.index.ensures c.as_slice.ensures)
