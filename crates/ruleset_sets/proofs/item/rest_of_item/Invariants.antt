use Rattle.std.proofs.Common.{◌≡◌, ◌+◌, ◌≤◌, length}
use Rattle.ruleset_sets.specs.Items.{rest_len}
use Rattle.ruleset_sets.proofs.item.rest_of_item.Given as goal

abbrev pub invariant-tokens : goal.invariant-tokens
invariant-tokens l = record {
  len : l.count + rest_len l.inside l.left ≡ rest_len l.fn.depth l.fn.tokens;
  few : l.inside ≤ l.count + 1;
  within : l.count + length l.left ≡ length l.fn.tokens;
}

abbrev pub decreases-tokens : goal.decreases-tokens
decreases-tokens l = length l.left
