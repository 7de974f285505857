use Rattle.std.proofs.Common.{length}
use Rattle.token_forms.specs.Words.{any_word, separates}
use Rattle.token_forms.specs.WordReading.{line_starts}
use Rattle.token_forms.proofs.LoopLaws.{Left}
use Rattle.rule_chain.specs.RulesReading as reading
use Rattle.rule_chain.proofs.blocks.rule_lines.Given as goal

abbrev pub invariant-lines : goal.invariant-lines
invariant-lines l = Left (line_starts separates any_word) (reading.rule_line l.schema l.d) (l.rules, l.next) l.reader (reading.rule_lines l.fn.schema l.fn.d l.fn.reader)

abbrev pub decreases-lines : goal.decreases-lines
decreases-lines l = length l.reader
