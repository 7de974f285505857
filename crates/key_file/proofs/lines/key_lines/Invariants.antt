use Rattle.std.proofs.Common.{length}
use Rattle.token_forms.specs.Words.{any_word, breaks_off}
use Rattle.token_forms.specs.WordReading.{line_starts}
use Rattle.token_forms.proofs.LoopLaws.{Left}
use Rattle.key_file.specs.KeysReading as reading
use Rattle.key_file.proofs.lines.key_lines.Given as goal

abbrev pub invariant-lines : goal.invariant-lines
invariant-lines l = Left (line_starts breaks_off any_word) (reading.line_or_break l.schema) (l.d, l.next) l.reader (reading.key_lines l.fn.schema l.fn.reader)

abbrev pub decreases-lines : goal.decreases-lines
decreases-lines l = length l.reader
