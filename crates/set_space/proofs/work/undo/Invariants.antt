use Rattle.std.proofs.Common.{◌≡◌, ◌<◌, ℕ, length, get_or}
use Rattle.set_space.specs.declared.open_set.OpenSet.{OpenSet}
use Rattle.set_space.specs.declared.open_set.OpenSet.TheVariants.{Unchanged}
use Rattle.set_space.proofs.work.undo.Given as goal

-- the sets before this place are unchanged
abbrev pub invariant-sets : goal.invariant-sets
invariant-sets l = (length l.sets ≡ length l.initial.sets) × ((k : ℕ) (o : OpenSet) → k < l.i → get_or l.sets k o ≡ Unchanged)
