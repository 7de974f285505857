use Rattle.std.proofs.Common.{length}
use Rattle.token_forms.proofs.LoopLaws.{Left}
use Rattle.set_script.specs.ScriptReading as reading
use Rattle.set_script.proofs.elements.all_options.Given as goal

abbrev pub invariant-options : goal.invariant-options
invariant-options l = Left reading.starts_option (reading.option_or_break l.timed) l.o l.reader (reading.all_options l.timed l.fn.reader)

abbrev pub decreases-options : goal.decreases-options
decreases-options l = length l.reader
