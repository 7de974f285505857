use Rattle.std.proofs.Common.{ap, length, arith}
use Rattle.shared_pages.proofs.PageLaws.{items-length}
use Rattle.mapping_table.proofs.roomy.Roomy.len.Goals as goal

pub returns : goal.returns
returns g c =
    let len = items-length c.self.inside.whole.items c.self.inside.rest.items c.self.invariant.whole in
    let e = ap (λ v. length v.items) c.self.view_is in
    omega arith
