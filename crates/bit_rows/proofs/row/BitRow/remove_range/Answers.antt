use Rattle.std.proofs.Common.{◌≡◌, ◌≤◌, ◌+◌, ap, length, arith, rules}
use Rattle.bit_rows.specs.Row.{Row}
use Rattle.bit_rows.specs.Words.{first_bits}
use Rattle.bit_rows.proofs.Rows.{bits-closed, row-closed}
use Rattle.bit_rows.proofs.Bits.{length-bits}
use Rattle.bit_rows.proofs.row.BitRow.remove_range.Goals as goal

pub invariant_of-self : goal.invariant_of-self
invariant_of-self c =
    let e : first_bits c.self.inside.words.items c.self.inside.len ≡ c.args.self.now.bits = ap (λ (r : Row). r.bits) c.self.view_is in
    let within : c.args.from + c.args.n ≤ c.self.inside.len = omega (arith, ap length e, length-bits c.self.inside.words.items c.self.inside.len) in
    let closed = row-closed _ _ _ _ _ _ c.self.invariant.row within c.words_used-used.ensures.within c.close_up.ensures.length c.close_up.ensures.places in
    search rules

pub returns-then-n-ne0-clause-bits : goal.returns-then-n-ne0-clause-bits
returns-then-n-ne0-clause-bits c =
    let e : first_bits c.self.inside.words.items c.self.inside.len ≡ c.args.self.now.bits = ap (λ (r : Row). r.bits) c.self.view_is in
    let within : c.args.from + c.args.n ≤ c.self.inside.len = omega (arith, ap length e, length-bits c.self.inside.words.items c.self.inside.len) in
    let closed = bits-closed _ _ _ _ _ _ c.self.invariant.row.clear within c.words_used-used.ensures.within c.close_up.ensures.places in
    cc
