-- Runs of a list: places that lie next to each other.
use Rattle.std.specs.Prelude.{ℕ, ◌+◌, List, ◌++◌, take, drop}

-- the list without the n items from `from` on
abbrev pub without_run : {X : Type 0} → List X → ℕ → ℕ → List X
without_run xs from n = take from xs ++ drop (from + n) xs
