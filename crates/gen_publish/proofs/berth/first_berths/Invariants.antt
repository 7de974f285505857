use Rattle.std.proofs.Common.{◌≡◌, length}
use Rattle.std.specs.Arc.{arc_value}
use Rattle.history_laws.specs.States.{AllAre}
use Rattle.gen_publish.proofs.berth.first_berths.Given as goal

-- one for each reader so far
abbrev pub invariant-readers : goal.invariant-readers
invariant-readers l = (length l.berths.items ≡ l.counter) × AllAre (λ b. arc_value b.generation) (arc_value l.generation) l.berths.items
