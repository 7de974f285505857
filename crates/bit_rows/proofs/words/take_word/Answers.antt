use Rattle.std.proofs.Common.{rules}
use Rattle.bit_rows.proofs.Places.{word-cleared}
use Rattle.bit_rows.proofs.words.take_word.Goals as goal

pub returns-clause-places : goal.returns-clause-places
returns-clause-places c = λ i. let cleared = word-cleared c.args.words.now c.args.w c.requires i in search rules
