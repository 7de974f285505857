use Rattle.std.proofs.Common.{◌≡◌}
use Rattle.reader_tests.proofs.slots.writes.Given as goal

abbrev pub invariant-loop-x : goal.invariant-loop-x
invariant-loop-x g l = l.writer.readers ≡ 2
