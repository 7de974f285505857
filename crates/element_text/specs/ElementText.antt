-- Keys and elements in nft's form.
use Rattle.std.specs.Prelude.{ℕ, List, [], ◌∷◌, ◌++◌, codes, decimal, Option, Some, None}
use Rattle.std.specs.List.{zip, join_by}
use Rattle.set_model.specs.declared.kind.Interval.{Interval}
use Rattle.set_model.specs.declared.kind.Kind.{Kind}
use Rattle.addr_text.specs.Written.{value_text, interval_text}

-- A key as a key file has it: its values, each of its field's kind, with ` . ` between them.
abbrev pub key_text : List Kind → List ℕ → List ℕ
key_text kinds key = join_by (λ p. value_text p.0 p.1) (codes " . ") (zip kinds key)

-- The intervals of an element, each of its field's kind, with ` . ` between them.
abbrev pub intervals_text : List Kind → List Interval → List ℕ
intervals_text kinds intervals = join_by (λ p. interval_text p.0 p.1) (codes " . ") (zip kinds intervals)

-- a comment in quotes, if there is one
abbrev pub comment_text : List ℕ → List ℕ
comment_text [] = []
comment_text (byte ∷ bytes) = codes " comment \"" ++ (byte ∷ bytes) ++ codes "\""

-- The line that added an element, or nothing if no line is noted for it.
abbrev pub line_text : Option ℕ → List ℕ
line_text None = []
line_text (Some line) = codes " (line " ++ decimal line ++ codes ")"
