use Rattle.std.proofs.Common.{◌∙◌}
use Rattle.packed_values.proofs.BigEndian.{four_bytes}
use Rattle.packed_values.proofs.numbers.four.Goals as goal

pub returns : goal.returns
returns c = c.from_be_bytes.ensures ∙ four_bytes c.args.bytes.now c.requires
