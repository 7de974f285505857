use Rattle.std.proofs.Common.{◌≡◌, ◌/◌, arith}
use Rattle.lookup_table.proofs.ShareLaws.{shared-all}
use Rattle.lookup_table.proofs.table.FieldTable.share_into.Goals as goal

pub returns-clause-shared : goal.returns-clause-shared
returns-clause-shared c = λ blocks stands.
    let all : c.groups.g ≡ c.args.self.now.bits / c.args.self.now.width = omega arith in
    shared-all _ _ _ c.groups.g _ _ _ _ blocks c.args.self.now.shaped.groups all c.requires.within stands c.groups.invariant.shared
