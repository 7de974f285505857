use Rattle.std.proofs.Common.{◌≡◌, length}
use Rattle.std.specs.List.{find}
use Rattle.ruleset_sets.specs.Kept.{is_of_sort}
use Rattle.ruleset_sets.proofs.skipped.first_of.Given as goal

abbrev pub invariant-each : goal.invariant-each
invariant-each l = find (λ p. is_of_sort l.sort p.role) l.left ≡ find (λ p. is_of_sort l.sort p.role) l.fn.dropped

abbrev pub decreases-each : goal.decreases-each
decreases-each l = length l.left
