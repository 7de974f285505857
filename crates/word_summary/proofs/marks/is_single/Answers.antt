use Rattle.std.proofs.Common.{◌+◌, ◌%◌, ◌^◌, bit_and, arith}
use Rattle.word_summary.proofs.MarkLaws.{no-word, single}
use Rattle.word_summary.proofs.marks.is_single.Goals as goal

pub returns : goal.returns
returns c = λ none.
    let less = (c.args.left + 18446744073709551615) % 2 ^ 64 in
    single c.args.left less (λ some. omega arith) (no-word (bit_and c.args.left less) none)
