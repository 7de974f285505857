use Rattle.std.proofs.Common.{◌≡◌, ◌+◌, rules}
use Rattle.std.specs.Prelude.{slice_index}
use Rattle.lookup_table.specs.Lines.{words_at}
use Rattle.lookup_table.proofs.LineLaws.{joined-near}
use Rattle.lookup_table.proofs.lines.moved_word.Goals as goal

pub returns-then-x-lt-WORDS : goal.returns-then-x-lt-WORDS
returns-then-x-lt-WORDS c = λ k h.
    let next : c.word_at-then-x-lt-WORDS.result ≡ slice_index (words_at c.args.pages.now c.args.p) (c.args.x + 1) = search rules in
    joined-near c.args.pages.now c.args.p c.args.x c.args.n k c.word_at.result c.word_at-then-x-lt-WORDS.result c.joined.result c.word_at.type_inv c.word_at.ensures next
    c.if-n-lt64.true c.if-x-lt-WORDS.true h (c.joined.ensures k h)
