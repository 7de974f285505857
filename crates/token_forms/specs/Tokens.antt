-- The tokens of a text, as nft(8) cuts its input: blanks, comments, words, strings, marks and line breaks.
use Rattle.std.specs.Prelude.{ℕ, zero, suc, ◌+◌, ◌-◌, List, [], ◌∷◌, take, Bool, true, false, ◌&&◌, not, ◌==◌, nat_le, Option, Some, None, if◌then◌else◌, slice_get}
use Rattle.std.specs.List.{prefix_len, cons_option}
use Rattle.std.specs.Option.{option_map}
use Rattle.token_forms.specs.declared.token.TokenKind.{TokenKind}
use Rattle.token_forms.specs.declared.token.TokenKind.TheVariants.{Break, Mark, Text, Word, Faulty, End}
use Rattle.token_forms.specs.declared.piece.Piece.{Piece}
use Rattle.token_forms.specs.Token.{Spelling, is_break}
use Rattle.token_forms.specs.Bytes.{is_blank, is_mark_byte, is_word_byte, is_string_byte, is_line_feed}

-- how a text begins: with a gap (a blank or a comment) or a token, and how many bytes it has
abbrev pub gap : ℕ → Piece
gap n = record { kind = None; size = n }

abbrev pub token : TokenKind → ℕ → Piece
token kind n = record { kind = Some kind; size = n }

-- After a quote: up to 128 bytes of a string, and a quote. Else the quote alone is a faulty token.
abbrev pub string_piece : List ℕ → Piece
string_piece bytes =
    let n = prefix_len is_string_byte bytes in
    if nat_le n 128 && quoted (slice_get bytes n) then token Text (n + 2) else token Faulty 1 where
      quoted : Option ℕ → Bool
      quoted None = false
      quoted (Some b) = b == 34

-- After a backslash: with a line feed it is a blank, else it is a faulty token.
abbrev pub joined_lines : List ℕ → Piece
joined_lines [] = token Faulty 1
joined_lines (b ∷ bytes) = if is_line_feed b then gap 2 else token Faulty 1

-- what begins with byte b and goes on with these bytes
abbrev pub piece : ℕ → List ℕ → Piece
piece b bytes =
    if is_blank b then gap 1
    else if b == 92 then joined_lines bytes
    else if b == 35 then gap (1 + prefix_len (λ c. not (is_line_feed c)) bytes)
    else if is_line_feed b then token Break 1
    else if is_mark_byte b then token Mark 1
    else if b == 34 then string_piece bytes
    else if is_word_byte b then token Word (1 + prefix_len is_word_byte bytes)
    else token Faulty 1

abbrev pub first_piece : List ℕ → Piece
first_piece [] = gap 0
first_piece (b ∷ bytes) = piece b bytes

-- only gaps and breaks hold line feeds
abbrev pub holds_feeds : Option TokenKind → Bool
holds_feeds None = true
holds_feeds (Some kind) = is_break kind

-- the line of the byte after this one
abbrev pub next_line : ℕ → ℕ → ℕ
next_line b line = if is_line_feed b then line + 1 else line

-- The tokens of these bytes, the first of which is in this line and at this place. So many of the bytes
-- still belong to a piece that began before them.
abbrev pub tokens_from : ℕ → ℕ → ℕ → List ℕ → List Spelling
tokens_from inside line place [] = record { kind = End; line = line; from = place; bytes = [] } ∷ []
tokens_from (suc inside) line place (b ∷ bytes) = tokens_from inside (next_line b line) (place + 1) bytes
tokens_from zero line place (b ∷ bytes) =
    let p = piece b bytes in
    cons_option (option_map (λ kind. record { kind = kind; line = line; from = place; bytes = take p.size (b ∷ bytes) }) p.kind) (tokens_from (p.size - 1) (next_line b line) (place + 1) bytes)

-- the tokens of a text: lines count from 1, and the end is the last token
abbrev pub tokens : List ℕ → List Spelling
tokens text = tokens_from 0 1 0 text
