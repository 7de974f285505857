use Rattle.std.proofs.Common.{◌≡◌, ◌-◌, ◌*◌, ◌^◌, ◌%◌, ◌∙◌, ap, bit_and, count_ones}
use Rattle.std.proofs.lemmas.Nat.{and_mask, one_shl}
use Rattle.bit_rows.proofs.Ranks.{ones-low}
use Rattle.bit_rows.proofs.ranked.ones_below.Goals as goal

pub returns : goal.returns
returns c =
    let n = c.args.n in
    let ones : 1 * 2 ^ n % 2 ^ 64 ≡ 2 ^ n = one_shl n 64 c.requires in
    ap (λ m. count_ones (bit_and c.args.word (m - 1))) ones ∙ ap count_ones (and_mask c.args.word n) ∙ ones-low c.args.word n
