-- Files that are picked by their names.
use Rattle.std.specs.Prelude.{◌≡◌, ◌⊎◌, ℕ, List, [], ◌∷◌, ◌++◌, Option}
use Rattle.std.specs.Io.KnownBytes.{IsAtEnd}

-- A number is new, and is a picked file's number from now on.
pub record IsPickOf (old new : ℕ → Type 0) (n : ℕ) : Type 0 where
  pub fresh : old n → ⊥
  pub picked : new n

-- What is left of a file that was picked before stays as it was.
abbrev pub KeepsLeft : (ℕ → Type 0) → (ℕ → Type 0) → (ℕ → Option (List ℕ)) → (ℕ → Option (List ℕ)) → Type 0
KeepsLeft old new left left_new = (m : ℕ) → old m → new m × (left_new m ≡ left m)

-- That name was asked for, once at most, and no other.
abbrev pub AsksOnce : List (List ℕ) → List (List ℕ) → List ℕ → Type 0
AsksOnce old new name = (new ≡ old) ⊎ (new ≡ old ++ name ∷ [])

-- A file was picked and read to its end, if the shelf knows what is left.
pub record ReadsToEnd (old new : ℕ → Type 0) (left : ℕ → Option (List ℕ)) : Type 0 where
  pub file : ℕ
  pub is_pick : IsPickOf old new file
  pub at_end : IsAtEnd (left file)
