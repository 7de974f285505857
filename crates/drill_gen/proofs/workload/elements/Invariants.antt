use Rattle.std.proofs.Common.{◌≡◌, ◌*◌, map}
use Rattle.std.specs.List.{range_with_len}
use Rattle.drill_gen.specs.Drill.{after_draws}
use Rattle.drill_gen.specs.Drawing.{target_at, addition_at}
use Rattle.drill_gen.proofs.workload.elements.Given as goal

abbrev pub invariant-loop-i : goal.invariant-loop-i
invariant-loop-i l = record {
  next : l.draws.state ≡ after_draws l.fn.draws.state (4 * l.i);
  targets : l.targets.items ≡ map (target_at l.fn.draws.state) (range_with_len 0 l.i);
  steps : l.steps ≡ map (addition_at l.fn.draws.state) (range_with_len 0 l.i);
}
