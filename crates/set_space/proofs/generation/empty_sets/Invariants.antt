use Rattle.std.proofs.Common.{◌≡◌, map, take}
use Rattle.set_model.specs.SetState.{empty_set}
use Rattle.set_space.proofs.generation.empty_sets.Given as goal

-- the sets so far
abbrev pub invariant-sets : goal.invariant-sets
invariant-sets l = l.sets ≡ map (λ d. empty_set d.kinds d.size d.disjoint) (take l.set-index l.set-items)
