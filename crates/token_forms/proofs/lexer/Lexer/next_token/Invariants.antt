use Rattle.std.proofs.Common.{◌≡◌, ◌+◌, ◌<◌, ◌^◌, length, false}
use Rattle.token_forms.specs.TokensLeft.{tokens_left}
use Rattle.token_forms.proofs.lexer.Lexer.next_token.Given as goal

abbrev pub invariant-pieces : goal.invariant-pieces
invariant-pieces l = record {
  same : tokens_left l.self-inside.ended l.self-inside.line l.self-inside.place l.self-inside.rest.now ≡ l.fn.self;
  going : l.self-inside.ended ≡ false;
  room : l.self-inside.line + length l.self-inside.rest.now < 2 ^ 64;
  space : l.self-inside.place + length l.self-inside.rest.now < 2 ^ 64;
}

abbrev pub decreases-pieces : goal.decreases-pieces
decreases-pieces l = length l.self-inside.rest.now
