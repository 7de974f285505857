use Rattle.std.proofs.Common.{◌≡◌, length}
use Rattle.ruleset_sets.specs.Sieve.{first_reason}
use Rattle.ruleset_sets.specs.declared.sieve.Spot.TheVariants as spots
use Rattle.ruleset_sets.proofs.sieve.reason_among.Given as goal

abbrev pub invariant-tokens : goal.invariant-tokens
invariant-tokens l = first_reason l.spot l.left ≡ first_reason spots.Plain l.fn.tokens

abbrev pub decreases-tokens : goal.decreases-tokens
decreases-tokens l = length l.left
