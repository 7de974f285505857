use Rattle.std.proofs.Common.{◌≡◌, ◌+◌, ◌*◌, ap, arith}
use Rattle.bit_rows.specs.Words.{first_bits}
use Rattle.bit_rows.specs.Ranked.{rank}
use Rattle.bit_rows.proofs.Ranks.{rank-in}
use Rattle.bit_rows.proofs.ranked.ones_in.Goals as goal

pub overflow_add-count : goal.overflow_add-count
overflow_add-count c = omega (arith, c.words.invariant.bound, c.ones-count.ensures.bound, c.requires.fit, c.words-test.true)

pub words-preserved : goal.words-preserved
words-preserved c =
    let words = c.args.words.now in
    let w = c.words.w in
    let on : 64 * (w + 1) ≡ 64 * w + 64 = omega arith in
    record {
      counted = λ len h.
          let more = rank-in words len w 64 (omega arith) (omega (arith, h)) in
          let before = c.words.invariant.counted len (omega (arith, h)) in
          let same = ap (rank (first_bits words len)) on in
          omega (arith, more, before, same, c.ones-count.ensures.value);
      bound = omega (arith, c.words.invariant.bound, c.ones-count.ensures.bound);
    }
