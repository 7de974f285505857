-- What a writer of text leaves if memory runs out.
use Rattle.std.specs.Prelude.{◌≡◌, ℕ, List, ◌++◌}

-- A front of a text was appended, and nothing else.
pub record AppendsPart (old new text : List ℕ) : Type 0 where
  pub part : List ℕ
  pub rest : List ℕ
  pub appended : new ≡ old ++ part
  pub front : text ≡ part ++ rest
