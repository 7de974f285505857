use Rattle.std.proofs.Common.{length}
use Rattle.token_forms.proofs.LoopLaws.{Left}
use Rattle.set_script.specs.Limits.{HasShortTimeout}
use Rattle.set_script.specs.ScriptReading as reading
use Rattle.set_script.proofs.sets.flags_behind.Given as goal

abbrev pub invariant-flags : goal.invariant-flags
invariant-flags l = Left reading.starts_flag reading.more_flags l.b l.reader (reading.flags_behind l.fn.b l.fn.reader) × HasShortTimeout l.b.decl

abbrev pub decreases-flags : goal.decreases-flags
decreases-flags l = length l.reader
