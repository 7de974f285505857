-- The line of a bad token as a note shows it, with carets under the token.
use Rattle.std.specs.Prelude.{◌≡◌, ℕ, ◌-◌, Bool, true, false, ◌==◌, ◌&&◌, not, nat_lt, cond, if◌then◌else◌, List, [], ◌∷◌, ◌++◌, length, take, drop, flat_map, codes}
use Rattle.std.specs.List.{prefix_len}
use Rattle.token_forms.specs.Bytes.{is_line_feed}
use Rattle.token_forms.specs.declared.bad_token.BadToken.{BadToken}
use Rattle.token_notes.specs.Shown.{is_printable, shown, shown_byte}

-- the last bytes of a text, up to so many
abbrev pub last : ℕ → List ℕ → List ℕ
last most text = drop (length text - most) text

-- the bytes before the first line feed
abbrev pub first_line : List ℕ → List ℕ
first_line text = take (prefix_len (λ b. not (is_line_feed b)) text) text

-- the bytes of a token's line before it: one less than its column
abbrev pub before_token : List ℕ → BadToken → List ℕ
before_token text bad = last (bad.column - 1) (take bad.at text)

-- the bytes of a token on its first line, and those after it on that line
abbrev pub of_token : List ℕ → BadToken → List ℕ
of_token text bad = take bad.length (first_line (drop bad.at text))

abbrev pub after_token : List ℕ → BadToken → List ℕ
after_token text bad = drop bad.length (first_line (drop bad.at text))

-- the whole line
abbrev pub line_of : List ℕ → BadToken → List ℕ
line_of text bad = first_line (drop (length (take bad.at text) - length (before_token text bad)) text)

-- a byte of a line as it is shown: a tab stays one
abbrev pub line_byte : ℕ → List ℕ
line_byte b = cond (b == 9) (9 ∷ []) (shown_byte b)

-- what is under a byte: so many marks as the byte is wide, and a tab under a tab before the token
abbrev pub marks : ℕ → ℕ → List ℕ
marks mark b = cond (b == 9 && mark == 32) (9 ∷ []) (cond (is_printable b) (shown (mark ∷ [])) (shown (mark ∷ mark ∷ mark ∷ mark ∷ [])))

-- two dots if a line goes on
abbrev pub dots : Bool → List ℕ
dots goes_on = cond goes_on (codes "..") []

-- what is under the dots
abbrev pub under_dots : Bool → List ℕ
under_dots goes_on = cond goes_on (codes "  ") []

-- What is shown after a token's first 60 bytes: dots if the token is longer; else 40 bytes of the line at most.
abbrev pub shown_after : List ℕ → List ℕ → List ℕ
shown_after token after = if nat_lt 60 (length token) then shown (codes "..") else flat_map line_byte (take 40 after) ++ shown (dots (nat_lt 40 (length after)))

-- a caret for a token without bytes
abbrev pub lone_caret : List ℕ → List ℕ
lone_caret token = cond (length token == 0) (codes "^") []

-- The line, with at most 100 bytes before the token and 60 of it.
abbrev pub line_text : List ℕ → List ℕ → List ℕ → List ℕ
line_text before token after = shown (dots (nat_lt 100 (length before))) ++ (flat_map line_byte (last 100 before) ++ (flat_map line_byte (take 60 token) ++ shown_after token after))

-- The blanks and carets under it.
abbrev pub marks_text : List ℕ → List ℕ → List ℕ
marks_text before token = shown (under_dots (nat_lt 100 (length before))) ++ (flat_map (marks 32) (last 100 before) ++ (shown (lone_caret token) ++ flat_map (marks 94) (take 60 token)))

-- Both lines.
abbrev pub both_lines : List ℕ → List ℕ → List ℕ → List ℕ
both_lines before token after = (line_text before token after ++ 10 ∷ []) ++ (marks_text before token ++ 10 ∷ [])

-- Both lines of a bad token in its text.
abbrev pub source_text : List ℕ → BadToken → List ℕ
source_text text bad = both_lines (before_token text bad) (of_token text bad) (after_token text bad)

-- What a note says after the place of a bad token. If the text is of another kind, this is one line on that. Else it is what is
-- wrong, then both lines of the token, and then what to do.
pub data IsSaid (lines text : List ℕ) : Bool → Type 0 where
  other_kind : (what : List ℕ) → text ≡ shown what ++ 10 ∷ [] → IsSaid lines text true
  shows_line : (wrong rest : List ℕ) → text ≡ (wrong ++ 10 ∷ []) ++ (lines ++ rest) → IsSaid lines text false

-- A note begins with a place, and says this after it.
pub record IsSaidAt (place lines : List ℕ) (is_other : Bool) (note : List ℕ) : Type 0 where
  pub said : List ℕ
  pub whole : note ≡ place ++ said
  pub says : IsSaid lines said is_other
