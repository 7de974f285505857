use Rattle.std.proofs.Common.{length}
use Rattle.token_forms.specs.Words.{any_word, breaks_off}
use Rattle.token_forms.specs.WordReading.{line_starts}
use Rattle.token_forms.proofs.LoopLaws.{Left}
use Rattle.pcap_keys.specs.PlansReading as reading
use Rattle.pcap_keys.proofs.plan.plan_lines.Given as goal

abbrev pub invariant-plan : goal.invariant-plan
invariant-plan l = Left (line_starts breaks_off any_word) (reading.line_or_break l.schema) (l.lines, l.next) l.reader (reading.plan_lines l.fn.schema l.fn.reader)

abbrev pub decreases-plan : goal.decreases-plan
decreases-plan l = length l.reader
