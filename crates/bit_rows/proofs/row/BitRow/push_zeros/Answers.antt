use Rattle.std.proofs.Common.{◌≡◌, ap}
use Rattle.bit_rows.specs.Row.{Row}
use Rattle.bit_rows.specs.Words.{first_bits}
use Rattle.bit_rows.proofs.Rows.{bits-push_zeros}
use Rattle.bit_rows.proofs.row.BitRow.push_zeros.Goals as goal

pub returns-clause-bits : goal.returns-clause-bits
returns-clause-bits c =
    let e : first_bits c.self.inside.words.items c.self.inside.len ≡ c.args.self.now.bits = ap (λ (r : Row). r.bits) c.self.view_is in
    let more = bits-push_zeros _ _ c.args.n c.self.invariant.row.clear in
    cc
