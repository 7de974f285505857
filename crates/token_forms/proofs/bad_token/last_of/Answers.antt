use Rattle.std.proofs.Common.{refl}
use Rattle.token_forms.proofs.BadTokenLaws.{passed-next, passed-end}
use Rattle.token_forms.proofs.bad_token.last_of.Goals as goal

pub tokens-preserved : goal.tokens-preserved
tokens-preserved c =
    passed-next c.take-last.new.self c.take.new.self _ c.take-last.result c.tokens.invariant c.in-Some.ensures.some c.requires c.take-last.ensures.none c.take-last.ensures.some

pub returns : goal.returns
returns c = passed-end c.tokens.invariant (c.in_default.ensures.none refl).0
