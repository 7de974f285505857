use Rattle.std.proofs.Common.{◌≡◌, ◌++◌, ◌∷◌, replicate, Some, None}
use Rattle.gen_slots.proofs.making.lay_one.Given as goal

abbrev pub invariant-loop : goal.invariant-loop
invariant-loop g l = l.berths.items ≡ l.fn.berths.items ++ Some l.fn.value ∷ replicate l.counter None
