use Rattle.std.proofs.Common.{◌≡◌, ◌∙◌, ap}
use Rattle.bit_rows.specs.Row.{Row}
use Rattle.bit_rows.specs.Words.{first_bits}
use Rattle.bit_rows.proofs.Rows.{bits-like}
use Rattle.bit_rows.proofs.row.BitRow.reserve.Goals as goal

pub returns-in_ok-grow-clause-bits : goal.returns-in_ok-grow-clause-bits
returns-in_ok-grow-clause-bits c =
    let e : first_bits c.self.inside.words.items c.self.inside.len ≡ c.args.self.now.bits = ap (λ (r : Row). r.bits) c.self.view_is in
    bits-like _ _ _ c.in_ok-grow.ensures.places ∙ e
