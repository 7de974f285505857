-- What a lexer has left.
use Rattle.std.specs.Prelude.{ℕ, List, [], Bool, true, false}
use Rattle.token_forms.specs.Token.{Spelling}
use Rattle.token_forms.specs.Tokens.{tokens_from}

-- nothing after the end
abbrev pub tokens_left : Bool → ℕ → ℕ → List ℕ → List Spelling
tokens_left true line place bytes = []
tokens_left false line place bytes = tokens_from 0 line place bytes
