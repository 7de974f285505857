use Rattle.std.proofs.Common.{length}
use Rattle.token_forms.specs.Words.{any_word, separates}
use Rattle.token_forms.specs.WordReading.{line_starts}
use Rattle.token_forms.proofs.LoopLaws.{Left}
use Rattle.set_script.specs.ScriptReading as reading
use Rattle.set_script.proofs.script.statements.Given as goal

abbrev pub invariant-lines : goal.invariant-lines
invariant-lines l = Left (line_starts separates any_word) reading.statement_line (l.d, l.next) l.reader (reading.statements l.fn.reader)

abbrev pub decreases-lines : goal.decreases-lines
decreases-lines l = length l.reader
