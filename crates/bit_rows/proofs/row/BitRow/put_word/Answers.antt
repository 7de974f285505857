use Rattle.std.proofs.Common.{ap, length, arith}
use Rattle.bit_rows.specs.Row.{Row}
use Rattle.bit_rows.proofs.Rows.{row-put, bits-put}
use Rattle.bit_rows.proofs.Bits.{length-bits}
use Rattle.bit_rows.proofs.row.BitRow.put_word.Goals as goal

pub returns-clause-bits : goal.returns-clause-bits
returns-clause-bits c =
    let e = ap (λ (x : Row). x.bits) c.self.view_is in
    let n = length-bits c.self.inside.words.items c.self.inside.len in
    let m = ap length e in
    let row = row-put c.self.inside.words.items c.put_word.new.words.items c.self.inside.len c.args.i c.args.word c.self.invariant.row c.put_word.ensures.length c.put_word.ensures.places (λ k h l. c.requires.within k h (omega arith)) in
    rw (← e) (bits-put c.self.inside.words.items c.put_word.new.words.items c.self.inside.len c.args.i c.args.word c.self.invariant.row row c.put_word.ensures.places)
