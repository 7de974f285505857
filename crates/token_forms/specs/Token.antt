-- Tokens with their bytes.
use Rattle.std.specs.Prelude.{ℕ, ◌+◌, List, length, Bool, true, false}
use Rattle.token_forms.specs.declared.token.TokenKind.{TokenKind}
use Rattle.token_forms.specs.declared.token.TokenKind.TheVariants as kinds
use Rattle.token_forms.specs.declared.token.Token.{Token}

-- a token: its kind, its line, the place of its first byte in the text, and its bytes
pub record Spelling : Type 0 where
  pub kind : TokenKind
  pub line : ℕ
  pub from : ℕ
  pub bytes : List ℕ

-- the same without its bytes, but with the place after its last byte
abbrev pub token_of : Spelling → Token
token_of s = record { kind = s.kind; line = s.line; from = s.from; to = s.from + length s.bytes }

-- A token as the forms see it. `behind`: the token before it is the word `delete`, `destroy` or
-- `create`. `plain`: its text is plain, so no word in it is special as a part of nft's language that is
-- left out.
pub record Lexeme : Type 0 where
  pub kind : TokenKind
  pub line : ℕ
  pub from : ℕ
  pub bytes : List ℕ
  pub behind : Bool
  pub plain : Bool

abbrev pub is_word : TokenKind → Bool
is_word kinds.Word = true
is_word kinds.Break = false
is_word kinds.Mark = false
is_word kinds.Text = false
is_word kinds.Faulty = false
is_word kinds.End = false

abbrev pub is_end : TokenKind → Bool
is_end kinds.End = true
is_end kinds.Word = false
is_end kinds.Break = false
is_end kinds.Mark = false
is_end kinds.Text = false
is_end kinds.Faulty = false

abbrev pub is_break : TokenKind → Bool
is_break kinds.Break = true
is_break kinds.Word = false
is_break kinds.Mark = false
is_break kinds.Text = false
is_break kinds.Faulty = false
is_break kinds.End = false

abbrev pub is_mark : TokenKind → Bool
is_mark kinds.Mark = true
is_mark kinds.Word = false
is_mark kinds.Break = false
is_mark kinds.Text = false
is_mark kinds.Faulty = false
is_mark kinds.End = false

abbrev pub is_text : TokenKind → Bool
is_text kinds.Text = true
is_text kinds.Word = false
is_text kinds.Break = false
is_text kinds.Mark = false
is_text kinds.Faulty = false
is_text kinds.End = false
