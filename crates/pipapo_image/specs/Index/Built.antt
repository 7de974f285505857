-- Lists that are made or changed item by item.
use Rattle.std.specs.Prelude.{◌≡◌, ℕ, ◌<◌, ◌≤◌, List, length, get_or}

-- n items, each of which satisfies P for its number
pub record Built {X : Type 0} (P : ℕ → X → Type 0) (xs : List X) (n : ℕ) : Type 0 where
  pub one_each : length xs ≡ n
  pub each : (k : ℕ) (d : X) → k < n → P k (get_or xs k d)

-- The first n items are changed by R, and the others are unchanged.
pub record Passed {X : Type 0} (R : ℕ → X → X → Type 0) (old new : List X) (n : ℕ) : Type 0 where
  pub len : length new ≡ length old
  pub done : (k : ℕ) (d : X) → k < n → k < length old → R k (get_or old k d) (get_or new k d)
  pub rest : (k : ℕ) (d : X) → n ≤ k → get_or new k d ≡ get_or old k d

-- Each item is changed by R, or is unchanged.
pub record EachChanged {X : Type 0} (R : X → X → Type 0) (old new : List X) : Type 0 where
  pub len : length new ≡ length old
  pub each : (k : ℕ) (d : X) → k < length old → R (get_or old k d) (get_or new k d)
