use Rattle.std.proofs.Common.{◌≡◌}
use Rattle.reader_speed.proofs.lookups.look_up.Given as goal

abbrev pub invariant-loop-passes : goal.invariant-loop-passes
invariant-loop-passes g l = l.reader.schema ≡ l.initial.reader.schema
