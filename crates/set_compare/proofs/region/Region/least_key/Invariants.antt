use Rattle.std.proofs.Common.{◌≡◌, map, take}
use Rattle.set_compare.proofs.region.Region.least_key.Given as goal

abbrev pub invariant-sides : goal.invariant-sides
invariant-sides l = l.lows.items ≡ map (λ side. side.low) (take l.side-index l.side-items)
