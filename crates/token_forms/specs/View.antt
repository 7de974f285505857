-- Tokens of the code as the definitions see them: without the addresses of their bytes.
use Rattle.std.specs.Prelude.{◌≡◌, List, [], ◌∷◌, Option, Some, None}
use Rattle.token_forms.specs.declared.lexer.Spelled.{Spelled}
use Rattle.token_forms.specs.declared.seen.Seen.{Seen}
use Rattle.token_forms.specs.Token.{Spelling, Lexeme}

abbrev pub spelling_of : Spelled → Spelling
spelling_of t = record { kind = t.kind; line = t.line; from = t.from; bytes = t.bytes.now }

abbrev pub lexeme_of : Seen → Lexeme
lexeme_of t = record { kind = t.kind; line = t.line; from = t.from; bytes = t.bytes.now; behind = t.behind; plain = t.plain }

-- a token that was read ahead, and those after it
abbrev pub with_head : Option Spelled → List Spelling → List Spelling
with_head None ts = ts
with_head (Some t) ts = spelling_of t ∷ ts

-- the first of the tokens, if there is one
abbrev pub IsFirst : Option Seen → List Lexeme → Type 0
IsFirst None ts = ts ≡ []
IsFirst (Some t) ts = (rest : List Lexeme) × (ts ≡ lexeme_of t ∷ rest)
