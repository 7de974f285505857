use Rattle.std.proofs.Common.{◌≡◌, ◌+◌, ◌++◌}
use Rattle.std.specs.Prelude.{replicate}
use Rattle.pipapo_image.proofs.index.grow.push_spans.Given as goal

abbrev pub invariant-rules : goal.invariant-rules
invariant-rules l = record { items : l.map.items ≡ l.initial.map.items ++ replicate l.i l.span; spare : l.map.spare + l.i ≡ l.initial.map.spare }
