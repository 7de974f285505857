use Rattle.std.proofs.Common.{length, true}
use Rattle.token_forms.specs.Words.{any_word, separates}
use Rattle.token_forms.specs.WordReading.{line_starts}
use Rattle.token_forms.proofs.LoopLaws.{Left}
use Rattle.set_script.specs.ScriptReading as reading
use Rattle.set_script.proofs.sets.block_lines.Given as goal

abbrev pub invariant-lines : goal.invariant-lines
invariant-lines l = Left (line_starts separates any_word) (reading.block_line (l.family, l.table)) (l.d, l.next) l.reader (reading.block_lines (l.family, l.fn.table) (l.fn.d, true) l.fn.reader)

abbrev pub decreases-lines : goal.decreases-lines
decreases-lines l = length l.reader
