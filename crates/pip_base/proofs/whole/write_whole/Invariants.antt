use Rattle.std.proofs.Common.{◌≡◌, ◌-◌, ◌≤◌, length, take}
use Rattle.std.specs.Io.KnownBytes.{Appends}
use Rattle.pip_base.proofs.whole.write_whole.Given as goal

-- the front of the piece has been taken, and no fault has come
abbrev pub invariant-pieces : goal.invariant-pieces
invariant-pieces g l = record {
  within : l.from ≤ length l.piece;
  taken : Appends (g.K.Sink.taken l.initial.sink) (g.K.Sink.taken l.sink) (take l.from l.piece);
  faults : g.K.Sink.faults l.sink ≡ g.K.Sink.faults l.initial.sink;
}

abbrev pub decreases-pieces : goal.decreases-pieces
decreases-pieces g l = length l.piece - l.from
