use Rattle.std.proofs.Common.{◌≡◌}
use Rattle.control_desk.specs.Turns.{IsUnlogged}
use Rattle.control_desk.proofs.work.submit_again.Given as goal

-- nothing is logged of it yet
abbrev pub invariant-loop : goal.invariant-loop
invariant-loop g l = IsUnlogged l.initial.clerk l.clerk × (l.clerk ≡ record l.initial.clerk { seen = l.clerk.seen; left = l.clerk.left })
