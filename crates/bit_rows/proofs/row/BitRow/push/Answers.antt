use Rattle.std.proofs.Common.{◌≡◌, ap, rules}
use Rattle.bit_rows.specs.Row.{Row}
use Rattle.bit_rows.specs.Words.{first_bits}
use Rattle.bit_rows.proofs.Rows.{bits-push}
use Rattle.bit_rows.proofs.row.BitRow.push.Goals as goal

pub returns-clause-bits : goal.returns-clause-bits
returns-clause-bits c =
    let e : first_bits c.self.inside.words.items c.self.inside.len ≡ c.args.self.now.bits = ap (λ (r : Row). r.bits) c.self.view_is in
    rw (← e) (bits-push _ _ _ _ c.self.invariant.row.clear (λ i. let places = c.set_places.ensures.places i in search rules))
