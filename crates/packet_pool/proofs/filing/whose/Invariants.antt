use Rattle.std.proofs.Common.{◌<◌, ℕ, map}
use Rattle.packet_pool.specs.Work.{GoesOnWith}
use Rattle.packet_pool.proofs.filing.whose.Given as goal

-- none of the lists so far goes on with the packet
abbrev pub invariant-loop-i : goal.invariant-loop-i
invariant-loop-i l = (k : ℕ) → k < l.i → GoesOnWith (map (λ v. v.items) l.lists) l.next l.packet k → ⊥
