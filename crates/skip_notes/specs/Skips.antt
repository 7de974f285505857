-- The note on what isn't kept of a ruleset.
use Rattle.std.specs.Prelude.{ℕ, List, [], ◌∷◌, ◌++◌, Option, Some, None, codes, decimal, take, drop, flat_map}
use Rattle.token_forms.specs.BadTokens.{column_at}
use Rattle.ruleset_sets.specs.declared.role_token.RoleToken.{RoleToken}
use Rattle.ruleset_sets.specs.declared.sieve.SkipReason.{SkipReason}
use Rattle.ruleset_sets.specs.declared.sieve.SkipReason.TheVariants as reasons
use Rattle.ruleset_sets.specs.declared.skipped.Skipped.{Skipped}
use Rattle.token_notes.specs.Shown.{shown}

-- the bytes of a token
abbrev pub token_bytes : List ℕ → RoleToken → List ℕ
token_bytes text p = take p.size (drop p.from text)

-- what becomes of a thing that isn't kept, and why, with the token that is the reason
abbrev pub reason_words : List ℕ → SkipReason → List ℕ
reason_words text reasons.NoSet = codes "is skipped: it isn't a set"
reason_words text (reasons.UnknownType p) = codes "is left out: it has the type '" ++ token_bytes text p ++ codes "', which isn't known here"
reason_words text (reasons.UnknownExpression p) = codes "is left out: it has an expression with '" ++ token_bytes text p ++ codes "', which isn't known here"
reason_words text (reasons.AutoMerge p) = codes "is left out: '" ++ token_bytes text p ++ codes "' isn't read here"
reason_words text (reasons.CatchAll p) = codes "is left out: it has the catch-all element '" ++ token_bytes text p ++ codes "'"
reason_words text (reasons.Stateful p) = codes "is left out: it has '" ++ token_bytes text p ++ codes "', on which verdicts depend"
reason_words text reasons.Unclosed = codes "is skipped: its braces don't close"
reason_words text reasons.HoldsItem = codes "is skipped: another item is in its braces"
reason_words text reasons.DroppedPart = codes "is dropped: no verdict depends on it"

-- the name of an item, after a blank
abbrev pub name_bytes : List ℕ → Option RoleToken → List ℕ
name_bytes text None = []
name_bytes text (Some p) = codes " " ++ token_bytes text p

-- the place of an item or a part: the name of the text, its line and its column
abbrev pub place_bytes : List ℕ → List ℕ → RoleToken → List ℕ
place_bytes name text p = name ++ codes ":" ++ decimal p.line ++ codes ":" ++ decimal (column_at text p.from)

-- What a line says of an item or a part: its place, its first token and its name in quotes, and why it isn't kept.
abbrev pub said_of : List ℕ → List ℕ → Skipped → List ℕ
said_of name text s = place_bytes name text s.at ++ codes ": '" ++ token_bytes text s.at ++ name_bytes text s.name ++ codes "' " ++ reason_words text s.why

-- the line, with its bytes as they are shown
abbrev pub skip_line : List ℕ → List ℕ → Skipped → List ℕ
skip_line name text s = shown (said_of name text s) ++ 10 ∷ []

-- the note: a line for each, in their order
abbrev pub skips_text : List ℕ → List ℕ → List Skipped → List ℕ
skips_text name text skips = flat_map (skip_line name text) skips
