use Rattle.std.proofs.Common.{◌≡◌, ◌++◌, take, map}
use Rattle.element_lines.proofs.steps.add_sets.Given as goal

-- the sets of the packets so far are added
abbrev pub invariant-packets : goal.invariant-packets
invariant-packets l = l.sets.items ≡ l.initial.sets.items ++ map (λ p. p.set) (take l.packet-index l.packet-items)
