use Rattle.std.proofs.Common.{length}
use Rattle.token_forms.specs.TextTokens.{tokens_by}
use Rattle.token_forms.proofs.BadTokenLaws.{Passed}
use Rattle.token_forms.proofs.bad_token.last_of.Given as goal

abbrev pub invariant-tokens : goal.invariant-tokens
invariant-tokens l = Passed (tokens_by l.fn.plain l.fn.text) l.reader l.ahead (length l.fn.ahead) l.last

abbrev pub decreases-tokens : goal.decreases-tokens
decreases-tokens l = length l.ahead
