-- What a note says of a token that isn't bad: its place, words on it, and its line with carets under it.
use Rattle.std.specs.Prelude.{ℕ, List, [], ◌∷◌, ◌++◌}
use Rattle.token_forms.specs.declared.bad_token.BadToken.{BadToken}
use Rattle.token_forms.specs.declared.token.Reason.TheVariants.{Statement}
use Rattle.token_forms.specs.BadTokens.{column_at}
use Rattle.token_notes.specs.declared.marked.Marked.{Marked}
use Rattle.token_notes.specs.Shown.{shown, place_text}
use Rattle.token_notes.specs.Source.{source_text}

-- words on a line of their own
abbrev pub shown_line : List ℕ → List ℕ
shown_line words = shown words ++ 10 ∷ []

-- the token, as its line is shown; the reason is no part of that
abbrev pub token_at : List ℕ → Marked → BadToken
token_at text m = record { at = m.at; length = m.length; line = m.line; column = column_at text m.at; reason = Statement }

abbrev pub marked_text : List ℕ → List ℕ → Marked → List ℕ → List ℕ
marked_text name text m words = place_text name m.line (column_at text m.at) ++ (shown_line words ++ source_text text (token_at text m))
