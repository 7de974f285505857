use Rattle.std.proofs.Common.{rules}
use Rattle.bit_rows.proofs.Rows.{bits-filled}
use Rattle.bit_rows.proofs.row.BitRow.fill.Goals as goal

pub returns-clause-bits : goal.returns-clause-bits
returns-clause-bits c =
    bits-filled _ _ _ _ _ _ _ _ c.self.invariant.row.clear c.words_used-used.ensures.within c.words_kept-kept.ensures.kept
    (λ i. let cleared = c.clear_words.ensures.places i in search rules) c.set_places.ensures.places
