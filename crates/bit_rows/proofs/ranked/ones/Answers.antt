use Rattle.std.proofs.Common.{◌≡◌, ◌^◌, ◌%◌, sym, ◌∙◌, ap, arith, count_ones}
use Rattle.bit_rows.proofs.Ranks.{ones-low}
use Rattle.bit_rows.proofs.ranked.ones.Goals as goal

pub returns-clause-value : goal.returns-clause-value
returns-clause-value c =
    let whole : c.args.word % 2 ^ 64 ≡ c.args.word = omega (arith, c.ranges.word.fits) in
    ap count_ones (sym whole) ∙ ones-low c.args.word 64
