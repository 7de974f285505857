-- What is printed for a person.
use Rattle.std.specs.Prelude.{◌≡◌, ℕ, Bool, true, false, List, All, Option}
use Rattle.pip_base.specs.Notes.{Tells}
use Rattle.token_notes.specs.Shown.{IsNoteByte}

-- Either nothing was printed; or one text was, which moves no terminal, and for which this holds.
pub data MayTell (IsNote : List ℕ → Type 0) (before now : Option (List ℕ)) : Type 0 where
  nothing : now ≡ before → MayTell IsNote before now
  note : (text : List ℕ) → All IsNoteByte text → IsNote text → Tells before now text → MayTell IsNote before now

-- The answer to whether a note was printed: one was, which moves no terminal, and for which this holds; or nothing was.
pub data SaysTold (IsNote : List ℕ → Type 0) (before now : Option (List ℕ)) : Bool → Type 0 where
  did_tell : (text : List ℕ) → All IsNoteByte text → IsNote text → Tells before now text → SaysTold IsNote before now true
  told_nothing : now ≡ before → SaysTold IsNote before now false
