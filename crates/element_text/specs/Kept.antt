-- What is kept if memory runs out during a text.
use Rattle.std.specs.Prelude.{◌≡◌, ℕ, List, ◌++◌}

-- The old bytes stay, and what was appended follows them.
pub record KeepsBytes (old new : List ℕ) : Type 0 where
  pub behind : List ℕ
  pub appended : new ≡ old ++ behind
