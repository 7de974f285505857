use Rattle.std.proofs.Common.{◌≡◌}
use Rattle.gen_slots.specs.SlotViews.{laid}
use Rattle.gen_slots.proofs.making.lay.Given as goal

abbrev pub invariant-loop-value : goal.invariant-loop-value
invariant-loop-value g l = l.berths.items ≡ laid l.yielded
