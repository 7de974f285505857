-- A piece that was taken in part.
use Rattle.std.specs.Prelude.{◌<◌, ℕ, List, length, take, Option}
use Rattle.std.specs.Io.KnownBytes.{Appends}

-- Known bytes grew by a front of a piece that isn't the whole piece.
pub record AppendsFront (old new : Option (List ℕ)) (piece : List ℕ) : Type 0 where
  pub count : ℕ
  pub part : count < length piece
  pub front : Appends old new (take count piece)

-- the most bytes that an input file may have
abbrev pub size_limit : ℕ
size_limit = 67108864
