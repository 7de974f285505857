use Rattle.std.proofs.Common.{refl}
use Rattle.bit_rows.proofs.Places.{set-in-word}
use Rattle.bit_rows.proofs.words.set_in_word.Goals as goal

pub returns-clause-places : goal.returns-clause-places
returns-clause-places c = set-in-word c.args.words.now c.args.from c.args.to _ c.mask.result c.requires.some c.requires.within c.requires.one refl c.mask.ensures
