use Rattle.std.proofs.Common.{◌++◌, ap, ◌∙◌}
use Rattle.packed_values.specs.Packed.{lows_of}
use Rattle.packed_values.proofs.Packing.{parts_back}
use Rattle.packed_values.proofs.pack.write_bounds.Goals as goal

pub returns-clause-parts : goal.returns-clause-parts
returns-clause-parts c =
    let written = ap (λ l. l ++ c.write_keys.new.highs) c.write_keys.ensures.lows ∙ ap (λ l. lows_of c.args.kinds.now c.args.parts.now ++ l) c.write_keys.ensures.highs in
    (parts_back c.args.kinds.now c.args.parts.now (c.write_keys.new.lows ++ c.write_keys.new.highs) c.requires.fit written).1
