use Rattle.std.proofs.Common.{◌≡◌, ◌≤◌, ◌+◌, ap, length, arith, rules}
use Rattle.bit_rows.specs.Row.{Row}
use Rattle.bit_rows.specs.Words.{first_bits}
use Rattle.bit_rows.proofs.Rows.{bits-run}
use Rattle.bit_rows.proofs.Bits.{length-bits}
use Rattle.bit_rows.proofs.row.BitRow.set_range.Goals as goal

pub returns-clause-bits : goal.returns-clause-bits
returns-clause-bits c =
    let e : first_bits c.self.inside.words.items c.self.inside.len ≡ c.args.self.now.bits = ap (λ (r : Row). r.bits) c.self.view_is in
    let within : c.args.from + c.args.n ≤ c.self.inside.len = omega (arith, ap length e, length-bits c.self.inside.words.items c.self.inside.len) in
    rw (← e) (bits-run _ _ _ _ _ within (λ i. let places = c.set_places.ensures.places i in search rules))
