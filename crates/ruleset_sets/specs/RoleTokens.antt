-- The tokens of a ruleset by their roles and places.
use Rattle.std.specs.Prelude.{ℕ, List, length, map, Option, None, cond}
use Rattle.token_forms.specs.Token.{Lexeme, is_word}
use Rattle.token_forms.specs.TextTokens.{text_tokens}
use Rattle.set_script.specs.declared.expression.ExpressionWord.{ExpressionWord}
use Rattle.set_script.specs.Expressions.{expression_word_of}
use Rattle.ruleset_sets.specs.declared.role_token.RoleToken.{RoleToken}
use Rattle.ruleset_sets.specs.Roles.{role_of}

-- the word of an expression that a token is
abbrev pub word_of : Lexeme → Option ExpressionWord
word_of t = cond (is_word t.kind) (expression_word_of t.bytes) None

abbrev pub role_token_of : Lexeme → RoleToken
role_token_of t = record { role = role_of t; word = word_of t; line = t.line; from = t.from; size = length t.bytes }

-- the tokens of a text, the end of the text among them
abbrev pub role_tokens : List ℕ → List RoleToken
role_tokens text = map role_token_of (text_tokens text)
