use Rattle.lookup_table.proofs.LineLaws.{joined-line}
use Rattle.lookup_table.proofs.lines.word_from.Goals as goal

pub returns : goal.returns
returns c = λ k h. joined-line c.args.pages.now c.args.j c.args.from k c.word_of.result c.word_of-2.result c.joined.result c.word_of.type_inv c.word_of.ensures c.word_of-2.ensures h (c.joined.ensures k h)
