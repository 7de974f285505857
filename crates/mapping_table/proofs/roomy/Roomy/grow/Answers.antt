use Rattle.std.proofs.Common.{ap, length, arith}
use Rattle.shared_pages.proofs.PageLaws.{items-length}
use Rattle.mapping_table.proofs.roomy.Roomy.grow.Goals as goal

pub invariant_of-self-then-self-room : goal.invariant_of-self-then-self-room
invariant_of-self-then-self-room g c =
    let len = items-length c.self.inside.whole.items c.self.inside.rest.items c.self.invariant.whole in
    let e = ap (λ v. length v.items) c.self.view_is in
    record { whole = c.self.invariant.whole; within = omega arith; held = omega (arith, c.in_ok-reserve.ensures.ok); counted = omega arith }
