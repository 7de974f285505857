use Rattle.std.proofs.Common.{◌*◌, get_or, bit_and}
use Rattle.bit_rows.specs.Words.{IsWritten}
use Rattle.bit_rows.proofs.words.and_words.Given as goal

abbrev pub invariant-lanes : goal.invariant-lanes
invariant-lanes l = IsWritten (λ k. bit_and (get_or l.fn.words k 0) (get_or l.other k 0)) 0 (8 * l.b) l.fn.words l.words

abbrev pub invariant-words : goal.invariant-words
invariant-words l = IsWritten (λ k. bit_and (get_or l.fn.words k 0) (get_or l.other k 0)) 0 l.w l.fn.words l.words
