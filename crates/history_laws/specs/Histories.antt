-- Histories: lists of states, in the order in which they came.
use Rattle.std.specs.Prelude.{◌≡◌, List, [], ◌∷◌, ◌++◌, length, cond, nat_lt}

module _ {X : Type 0} where
  -- the history `all` begins with `seen`
  abbrev pub StartsWith : List X → List X → Type 0
  StartsWith all seen = (rest : List X) × (all ≡ seen ++ rest)

  -- its last state is x
  abbrev pub EndsWith : List X → X → Type 0
  EndsWith all x = (front : List X) × (all ≡ front ++ x ∷ [])

  abbrev pub Linked : (X → X → Type 0) → X → List X → Type 0
  Linked follows x [] = Unit {0}
  Linked follows x (y ∷ ys) = follows x y × Linked follows y ys

  -- each state may follow the one before it
  abbrev pub Chain : (X → X → Type 0) → List X → Type 0
  Chain follows [] = Unit {0}
  Chain follows (x ∷ xs) = Linked follows x xs

  -- the longer of two histories
  abbrev pub longer : List X → List X → List X
  longer xs ys = cond (nat_lt (length xs) (length ys)) ys xs

abbrev pub PrefixesOfOne : Type 0 → Type 0
PrefixesOfOne X = (all xs ys : List X) → StartsWith all xs → StartsWith all ys → StartsWith all (longer xs ys) × StartsWith (longer xs ys) xs × StartsWith (longer xs ys) ys
