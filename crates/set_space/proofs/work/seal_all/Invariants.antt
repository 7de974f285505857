use Rattle.std.proofs.Common.{◌≡◌, ◌+◌, ◌*◌, ◌^◌, ◌≤◌, map, take, length}
use Rattle.set_model.specs.SetState.{purged}
use Rattle.set_model.specs.Control.{expired_count}
use Rattle.set_space.specs.OpenSets.{open_states}
use Rattle.set_space.proofs.work.seal_all.Given as goal

-- The open sets represent the same states. The sets so far are published and their expired elements
-- counted, fewer than 2^32 for each set.
abbrev pub invariant-sets : goal.invariant-sets
invariant-sets l =
    (length l.sets ≡ length l.initial.sets)
    × (open_states l.sets l.base.sets ≡ open_states l.initial.sets l.base.sets)
    × (l.published ≡ map (λ s. purged s l.now) (take l.i (open_states l.initial.sets l.base.sets)))
    × (l.expired ≡ expired_count (take l.i (open_states l.initial.sets l.base.sets)) l.now)
    × (l.expired + l.i ≤ 2 ^ 32 * l.i)
