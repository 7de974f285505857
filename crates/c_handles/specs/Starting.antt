-- What a start makes.
use Rattle.std.specs.Prelude.{◌≡◌, ◌+◌, ℕ, [], ◌∷◌, List, length, map, Option, Some, None}
use Rattle.set_model.specs.Control.{first_generation}
use Rattle.set_model.specs.declared.script.SetDecl.{SetDecl}
use Rattle.set_space.specs.Open.{opened}
use Rattle.gen_publish.specs.Publish.{Steering, ReaderView, declared_kinds}
use Rattle.c_handles.specs.Shapes.{described}
use Rattle.c_handles.specs.declared.shapes.SetShape.{SetShape}
use Rattle.c_handles.specs.declared.place.Place.TheVariants.{Out}
use Rattle.c_handles.specs.declared.object.Object.{Object}
use Rattle.c_handles.specs.declared.object.Object.TheVariants.{Control, Reader, Elements}

-- A reader looks up in these sets.
abbrev pub IsOf : List SetDecl → ReaderView → Type 0
IsOf schema reader = reader.schema ≡ schema

-- what the handle of a reader that holds no generation gets
abbrev pub seated : ReaderView → Object
seated reader = Reader (record { place = Out reader; kinds = declared_kinds reader.schema })

-- a control's new reader of this number: it has seen what is committed, and holds nothing
abbrev pub new_reader : Steering → ℕ → ReaderView
new_reader c number = record { of = c.of; schema = c.schema; seen = c.committed; reader = number; moves = 0 }

-- Handles hold a control's new readers, one each, numbered from k on.
abbrev pub HoldReaders : Steering → ℕ → List (Option Object) → Type 0
HoldReaders c k [] = Unit {0}
HoldReaders c k (held ∷ others) = (held ≡ Some (seated (new_reader c k))) × HoldReaders c (k + 1) others

-- A control at generation 0: its sets are those that the structs describe, all empty, and no change is open. Each of these
-- handles holds one of its readers, and it has no others.
pub record IsStart (shapes : List SetShape) (c : Steering) (readers : List (Option Object)) : Type 0 where
  pub sets : c.schema ≡ map described shapes
  pub committed : c.committed ≡ first_generation c.schema ∷ []
  pub no_change : c.work ≡ opened (first_generation c.schema)
  pub count : c.readers ≡ length readers
  pub seats : HoldReaders c 0 readers

abbrev pub HasStarted : List SetShape → Option Object → List (Option Object) → Type 0
HasStarted shapes (Some (Control c)) readers = IsStart shapes c readers
HasStarted shapes (Some (Reader s)) readers = ⊥
HasStarted shapes (Some (Elements e)) readers = ⊥
HasStarted shapes None readers = ⊥
