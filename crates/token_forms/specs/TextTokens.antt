-- The tokens of a text as the forms see them.
use Rattle.std.specs.Prelude.{ℕ, List, [], ◌∷◌, Bool, true, false, ◌&&◌, ◌||◌, codes, bytes_eq, map}
use Rattle.token_forms.specs.declared.token.TokenKind.{TokenKind}
use Rattle.token_forms.specs.declared.token.Token.{Token}
use Rattle.token_forms.specs.Token.{Spelling, Lexeme, is_word, token_of}
use Rattle.token_forms.specs.Tokens.{tokens}

-- the word `delete`, `destroy` or `create`
abbrev pub is_change_word : TokenKind → List ℕ → Bool
is_change_word kind bytes = is_word kind && (bytes_eq bytes (codes "delete") || bytes_eq bytes (codes "destroy") || bytes_eq bytes (codes "create"))

-- each token gets two marks: whether its text is plain, and whether the token before it is such a word
abbrev pub linked : Bool → Bool → List Spelling → List Lexeme
linked plain behind [] = []
linked plain behind (t ∷ ts) = record { kind = t.kind; line = t.line; from = t.from; bytes = t.bytes; behind = behind; plain = plain } ∷ linked plain (is_change_word t.kind t.bytes) ts

-- the tokens of a text that is plain or in nft's language
abbrev pub tokens_by : Bool → List ℕ → List Lexeme
tokens_by plain text = linked plain false (tokens text)

-- the tokens of a text in nft's language
abbrev pub text_tokens : List ℕ → List Lexeme
text_tokens text = tokens_by false text

-- the tokens of a plain text, whose language leaves out no part of nft's
abbrev pub plain_tokens : List ℕ → List Lexeme
plain_tokens text = tokens_by true text

-- the tokens of a text by their lines and places alone
abbrev pub placed_tokens : List ℕ → List Token
placed_tokens text = map token_of (tokens text)
