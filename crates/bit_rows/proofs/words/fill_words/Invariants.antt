use Rattle.std.proofs.Common.{◌+◌, ◌*◌}
use Rattle.bit_rows.specs.Words.{IsWritten}
use Rattle.bit_rows.proofs.words.fill_words.Given as goal

abbrev pub invariant-lanes : goal.invariant-lanes
invariant-lanes l = IsWritten (λ _. l.word) l.from (l.from + 8 * l.b) l.fn.words l.words

abbrev pub invariant-words : goal.invariant-words
invariant-words l = IsWritten (λ _. l.word) l.from l.w l.fn.words l.words
