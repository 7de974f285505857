use Rattle.std.proofs.Common.{◌≡◌}
use Rattle.reader_speed.proofs.lookups.pass.Given as goal

abbrev pub invariant-loop-packet : goal.invariant-loop-packet
invariant-loop-packet l = l.held.schema ≡ l.initial.held.schema
