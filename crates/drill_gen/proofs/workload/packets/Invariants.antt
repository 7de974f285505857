use Rattle.std.proofs.Common.{◌≡◌, map}
use Rattle.std.specs.List.{range_with_len}
use Rattle.drill_gen.specs.Drawing.{packet_state, drawn_packet}
use Rattle.drill_gen.proofs.workload.packets.Given as goal

abbrev pub invariant-loop-p : goal.invariant-loop-p
invariant-loop-p l = record {
  next : l.draws.state ≡ packet_state l.fn.draws.state l.p;
  packets : l.packets ≡ map (drawn_packet l.targets l.fn.draws.state) (range_with_len 0 l.p);
}
