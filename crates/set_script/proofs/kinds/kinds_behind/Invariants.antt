use Rattle.std.proofs.Common.{length}
use Rattle.token_forms.proofs.LoopLaws.{Left}
use Rattle.set_script.specs.ScriptReading as reading
use Rattle.set_script.proofs.kinds.kinds_behind.Given as goal

abbrev pub invariant-kinds : goal.invariant-kinds
invariant-kinds l = Left reading.starts_kind (reading.more_kinds l.word) l.kinds l.reader (reading.kinds_behind l.word l.fn.kinds l.fn.reader)

abbrev pub decreases-kinds : goal.decreases-kinds
decreases-kinds l = length l.reader
