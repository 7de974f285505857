use Rattle.std.proofs.Common.{◌≡◌, ◌+◌, ◌++◌}
use Rattle.std.specs.Prelude.{replicate}
use Rattle.pipapo_image.proofs.index.grow.push_ends.Given as goal

abbrev pub invariant-rules : goal.invariant-rules
invariant-rules l = record { items : l.ends.items ≡ l.initial.ends.items ++ replicate l.i l.end; spare : l.ends.spare + l.i ≡ l.initial.ends.spare }
