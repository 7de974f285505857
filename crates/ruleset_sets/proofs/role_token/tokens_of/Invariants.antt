use Rattle.std.proofs.Common.{◌≡◌, ◌++◌, length, map}
use Rattle.ruleset_sets.specs.RoleTokens.{role_token_of, role_tokens}
use Rattle.ruleset_sets.proofs.role_token.tokens_of.Given as goal

abbrev pub invariant-tokens : goal.invariant-tokens
invariant-tokens l = l.all.items ++ map role_token_of l.reader ≡ role_tokens l.fn.text

abbrev pub decreases-tokens : goal.decreases-tokens
decreases-tokens l = length l.reader
