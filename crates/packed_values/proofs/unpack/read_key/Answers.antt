use Rattle.std.proofs.Common.{◌≡◌, arith}
use Rattle.std.proofs.lemmas.Grind.{common_steps}
use Rattle.packed_values.specs.Packed.{values_in}
use Rattle.packed_values.proofs.Fields.{key_fits_so}
use Rattle.packed_values.proofs.unpack.read_key.Goals as goal

pub returns-clause-fits : goal.returns-clause-fits
returns-clause-fits c =
    let read : c.fields.key ≡ values_in c.args.kinds.now c.args.bytes.now = grind (arith, common_steps) in
    key_fits_so c.args.kinds.now c.fields.key c.args.bytes.now read c.requires.bytes (λ k. omega (arith, c.type_inv.bytes k))
