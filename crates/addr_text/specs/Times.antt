-- The texts of a time (nft(8), the time type).
use Rattle.std.specs.Prelude.{◌≡◌, ℕ, ◌+◌, ◌*◌, ◌<◌, ◌≤◌, ◌⊎◌, List, [], ◌∷◌, ◌++◌, length, codes}
use Rattle.std.specs.Net.Grammar.{IsNumber}

-- each unit of a time with its milliseconds, the longest first
abbrev pub units : List (List ℕ × ℕ)
units =
    (codes "d", 86_400_000)
    ∷ (codes "h", 3_600_000)
    ∷ (codes "m", 60_000)
    ∷ (codes "s", 1_000)
    ∷ (codes "ms", 1)
    ∷ []

-- the longest time, in milliseconds
abbrev pub longest_time : ℕ
longest_time = 1_000_000_000_000_000

-- one to 15 digits, which may begin with 0
abbrev pub IsCount : List ℕ → ℕ → Type 0
IsCount text n = IsNumber 10 text n × (length text ≤ 15)

-- A count and its unit for some of these units, maybe for none, in their order and with nothing
-- between.
abbrev pub IsParts : List (List ℕ × ℕ) → List ℕ → ℕ → Type 0
IsParts [] text ms = (text ≡ []) × (ms ≡ 0)
IsParts (unit ∷ units) text ms =
    IsParts units text ms
    ⊎ ((digits rest : List ℕ) × (count later : ℕ) × (text ≡ digits ++ (unit.0 ++ rest)) × IsCount digits count
    × IsParts units rest later × (ms ≡ count * unit.1 + later))

-- a count without a unit, which counts seconds
abbrev pub IsSeconds : List ℕ → ℕ → Type 0
IsSeconds text ms = (seconds : ℕ) × IsCount text seconds × (ms ≡ seconds * 1_000)

-- the text means this time in milliseconds
pub record IsTime (text : List ℕ) (ms : ℕ) : Type 0 where
  pub spelled : IsSeconds text ms ⊎ ((0 < length text) × IsParts units text ms)
  pub within : ms ≤ longest_time
