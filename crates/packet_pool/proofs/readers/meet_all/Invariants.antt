use Rattle.std.proofs.Common.{◌≡◌}
use Rattle.packet_pool.proofs.Dealing.{MetBefore, SameFrom}
use Rattle.packet_pool.proofs.readers.meet_all.Given as goal

-- the readers so far have met the control
abbrev pub invariant-loop-slot : goal.invariant-loop-slot
invariant-loop-slot l = record {
  control : l.control ≡ l.initial.control;
  met : MetBefore l.initial.control.committed l.initial.slot-items l.slot-index l.slot-items;
  rest : SameFrom l.initial.control.committed l.initial.slot-items l.slot-index l.slot-items;
}
