use Rattle.std.proofs.Common.{◌∙◌}
use Rattle.packed_values.proofs.BigEndian.{two_bytes}
use Rattle.packed_values.proofs.numbers.two.Goals as goal

pub returns : goal.returns
returns c = c.from_be_bytes.ensures ∙ two_bytes c.args.bytes.now c.requires
