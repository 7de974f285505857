use Rattle.bit_rows.proofs.Places.{IsNoneUpTo}
use Rattle.bit_rows.proofs.words.next_place.Given as goal

abbrev pub invariant-words : goal.invariant-words
invariant-words l = IsNoneUpTo l.words l.from l.w
