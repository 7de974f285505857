use Rattle.std.proofs.Common.{sym, ◌∙◌, ap, length}
use Rattle.bit_rows.proofs.Bits.{length-bits}
use Rattle.bit_rows.proofs.ranked.RankedBits.len.Goals as goal

pub returns : goal.returns
returns c = sym (length-bits c.self.inside.words.items c.self.inside.len) ∙ ap length c.self.view_is
