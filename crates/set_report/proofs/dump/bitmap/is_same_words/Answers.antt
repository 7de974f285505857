use Rattle.std.proofs.Common.{◌∙◌, arith}
use Rattle.set_report.proofs.DumpBits.{same-by-words}
use Rattle.set_report.proofs.dump.bitmap.is_same_words.Goals as goal

pub returns : goal.returns
returns c = λ bits other_bits spelled other long.
    c.is_same_so_far.ensures
    ∙ same-by-words c.args.words.now c.args.others.now bits other_bits spelled other long (λ w. omega (arith, c.type_inv.words w)) (λ w. omega (arith, c.type_inv.others w))
