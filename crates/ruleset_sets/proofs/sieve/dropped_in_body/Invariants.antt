use Rattle.std.proofs.Common.{◌≡◌, ◌++◌, length}
use Rattle.ruleset_sets.specs.Sieve.{dropped_among}
use Rattle.ruleset_sets.specs.declared.sieve.Spot.TheVariants as spots
use Rattle.ruleset_sets.proofs.sieve.dropped_in_body.Given as goal

abbrev pub invariant-tokens : goal.invariant-tokens
invariant-tokens l = l.dropped.items ++ dropped_among l.spot l.left ≡ dropped_among spots.Plain l.fn.body

abbrev pub decreases-tokens : goal.decreases-tokens
decreases-tokens l = length l.left
