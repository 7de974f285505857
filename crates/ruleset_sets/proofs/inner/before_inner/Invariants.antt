use Rattle.std.proofs.Common.{◌≡◌, ◌+◌, length}
use Rattle.ruleset_sets.specs.Inner.{before_inner}
use Rattle.ruleset_sets.proofs.inner.before_inner.Given as goal

abbrev pub invariant-tokens : goal.invariant-tokens
invariant-tokens l = record {
  count : l.count + before_inner l.left ≡ before_inner l.fn.item;
  within : l.count + length l.left ≡ length l.fn.item;
}

abbrev pub decreases-tokens : goal.decreases-tokens
decreases-tokens l = length l.left
