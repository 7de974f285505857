use Rattle.std.proofs.Common.{◌≡◌, ◌∷◌, replicate, None}
use Rattle.gen_slots.specs.declared.machine.Standing.TheVariants.{Published, Free}
use Rattle.gen_slots.proofs.machine.SlotCore.with_counts.Given as goal

abbrev pub invariant-loop : goal.invariant-loop
invariant-loop l = (l.done.items ≡ replicate l.counter l.start) × (l.entered.items ≡ replicate l.counter l.start)

abbrev pub invariant-loop-2 : goal.invariant-loop-2
invariant-loop-2 l = l.standing.items ≡ Published ∷ replicate l.counter Free

abbrev pub invariant-loop-3 : goal.invariant-loop-3
invariant-loop-3 l = l.held.items ≡ replicate l.counter None
