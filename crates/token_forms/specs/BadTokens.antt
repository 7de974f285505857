-- The bad token of a text and its place.
use Rattle.std.specs.Prelude.{◌≡◌, ℕ, ◌+◌, List, length, take, reverse, not, Option, Some, None}
use Rattle.std.specs.List.{prefix_len}
use Rattle.token_forms.specs.declared.bad_token.BadToken.{BadToken}
use Rattle.token_forms.specs.declared.seen.Seen.{Seen}
use Rattle.token_forms.specs.declared.token.Reason.{Reason}
use Rattle.token_forms.specs.Bytes.{is_line_feed}
use Rattle.token_forms.specs.Token.{Lexeme}
use Rattle.token_forms.specs.View.{lexeme_of}
use Rattle.token_forms.specs.TextTokens.{text_tokens, plain_tokens}
use Rattle.token_forms.specs.Form.{Form}
use Rattle.token_forms.specs.Faults.{IsFault}

-- The column of a place: 1 plus the number of bytes before it on its line.
abbrev pub column_at : List ℕ → ℕ → ℕ
column_at text at = 1 + prefix_len (λ b. not (is_line_feed b)) (reverse (take at text))

-- a token of a text by its place, with the reason for which it is bad
abbrev pub bad_token_of : List ℕ → Lexeme → Reason → BadToken
bad_token_of text t reason = record { at = t.from; length = length t.bytes; line = t.line; column = column_at text t.from; reason = reason }

-- The text has these tokens and isn't in the form, and this is its bad token: the tokens before it are
-- a front, and with it they are none.
pub record IsBadToken {A : Type 0} (f : Form A) (ts : List Lexeme) (text : List ℕ) (b : BadToken) : Type 0 where
  pub fault : IsFault f ts b.line b.reason
  pub placed : b ≡ bad_token_of text fault.bad b.reason

-- What is reported of a text: its bad token, and none exactly if the text is in the form.
abbrev pub IsBadTokenAmong : {A : Type 0} → Form A → List Lexeme → List ℕ → Option BadToken → Type 0
IsBadTokenAmong {A} f ts text None = (a : A) × f.whole ts a
IsBadTokenAmong f ts text (Some b) = IsBadToken f ts text b

-- the same for a text in nft's language, and for a plain text, whose language leaves out no part of
-- nft's
abbrev pub IsBadTokenOf : {A : Type 0} → Form A → List ℕ → Option BadToken → Type 0
IsBadTokenOf f text found = IsBadTokenAmong f (text_tokens text) text found

abbrev pub IsPlainBadTokenOf : {A : Type 0} → Form A → List ℕ → Option BadToken → Type 0
IsPlainBadTokenOf f text found = IsBadTokenAmong f (plain_tokens text) text found

-- A text has one bad token at most.
abbrev pub HasOneBadTokenAmong : {A : Type 0} → Form A → List Lexeme → List ℕ → Type 0
HasOneBadTokenAmong f ts text = (b other : BadToken) → IsBadToken f ts text b → IsBadToken f ts text other → b ≡ other

abbrev pub HasOneBadToken : {A : Type 0} → Form A → List ℕ → Type 0
HasOneBadToken f text = HasOneBadTokenAmong f (text_tokens text) text

-- the token that the code sees for this one
abbrev pub IsLexemeSeen : Lexeme → Option Seen → Type 0
IsLexemeSeen t None = ⊥
IsLexemeSeen t (Some s) = lexeme_of s ≡ t
