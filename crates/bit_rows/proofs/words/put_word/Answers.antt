use Rattle.bit_rows.proofs.Places.{word-put}
use Rattle.bit_rows.proofs.words.put_word.Goals as goal

pub returns-clause-places : goal.returns-clause-places
returns-clause-places c = word-put c.args.words.now c.args.w c.args.word c.requires
