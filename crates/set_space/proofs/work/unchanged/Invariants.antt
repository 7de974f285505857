use Rattle.std.proofs.Common.{◌≡◌, ◌<◌, ℕ, length, get_or}
use Rattle.set_space.specs.declared.open_set.OpenSet.{OpenSet}
use Rattle.set_space.specs.declared.open_set.OpenSet.TheVariants.{Unchanged}
use Rattle.set_space.proofs.work.unchanged.Given as goal

-- the sets so far are unchanged
abbrev pub invariant-sets : goal.invariant-sets
invariant-sets l = (length l.sets.items ≡ l.i) × ((k : ℕ) (o : OpenSet) → k < l.i → get_or l.sets.items k o ≡ Unchanged)
