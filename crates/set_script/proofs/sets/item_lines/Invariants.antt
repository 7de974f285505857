use Rattle.std.proofs.Common.{length, false}
use Rattle.token_forms.specs.Words.{any_word, separates}
use Rattle.token_forms.specs.WordReading.{line_starts}
use Rattle.token_forms.proofs.LoopLaws.{Left}
use Rattle.set_script.specs.Limits.{HasShortTimeout}
use Rattle.set_script.specs.ScriptReading as reading
use Rattle.set_script.proofs.sets.item_lines.Given as goal

abbrev pub invariant-lines : goal.invariant-lines
invariant-lines l = Left (line_starts separates any_word) reading.item_line ((l.b, l.steps), l.next) l.reader (reading.item_lines ((l.fn.b, l.fn.steps), false) l.fn.reader) × HasShortTimeout l.b.decl

abbrev pub decreases-lines : goal.decreases-lines
decreases-lines l = length l.reader
