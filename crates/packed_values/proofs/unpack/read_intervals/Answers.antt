use Rattle.std.proofs.Common.{◌≡◌, arith}
use Rattle.std.proofs.lemmas.Grind.{common_steps}
use Rattle.packed_values.specs.Packed.{intervals_in}
use Rattle.packed_values.proofs.Fields.{parts_fit_so}
use Rattle.packed_values.proofs.unpack.read_intervals.Goals as goal

pub returns-clause-fit : goal.returns-clause-fit
returns-clause-fit c =
    let read : c.fields.intervals.items ≡ intervals_in c.args.kinds.now c.args.lows.now c.args.highs.now = grind (arith, common_steps) in
    parts_fit_so c.args.kinds.now c.fields.intervals.items c.args.lows.now c.args.highs.now read c.requires.highs (λ k. omega (arith, c.type_inv.highs k))
