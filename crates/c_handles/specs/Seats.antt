-- A reader in its handle.
use Rattle.std.specs.Prelude.{◌≡◌, ℕ, List, Some, slice_get}
use Rattle.history_laws.specs.Histories.{StartsWith}
use Rattle.set_model.specs.declared.kind.Kind.{Kind}
use Rattle.gen_publish.specs.Publish.{declared_kinds}
use Rattle.c_handles.specs.declared.place.Place.{Place}
use Rattle.c_handles.specs.declared.place.Place.TheVariants.{Out, In, Nowhere}

-- Its place, and the kinds of the sets that it looks up in.
pub record SeatView : Type 0 where
  pub place : Place
  pub kinds : List (List Kind)

-- These are the kinds of the declared sets.
abbrev pub IsSeated : Place → List (List Kind) → Type 0
IsSeated (Out r) kinds = kinds ≡ declared_kinds r.schema
IsSeated (In h) kinds = kinds ≡ declared_kinds h.schema
IsSeated Nowhere kinds = Unit {0}

-- A reader went from holding nothing to holding a generation, or back.
abbrev pub WentIn : Place → Place → Type 0
WentIn (Out r) (In h) = (h.schema ≡ r.schema) × StartsWith h.seen r.seen
WentIn other new = ⊥

abbrev pub WentOut : Place → Place → Type 0
WentOut (In h) (Out r) = (r.schema ≡ h.schema) × (r.seen ≡ h.seen)
WentOut other new = ⊥

-- A reader that holds a generation holds the same one. One that holds none has seen what it had seen.
abbrev pub Stays : Place → Place → Type 0
Stays (Out r) (Out t) = (t.schema ≡ r.schema) × StartsWith t.seen r.seen
Stays (In h) (In k) = k ≡ h
Stays Nowhere new = new ≡ Nowhere
Stays old new = ⊥

-- The reader at a place looks up in a set of these kinds.
abbrev pub IsDeclaredAt : Place → ℕ → List Kind → Type 0
IsDeclaredAt (Out r) set kinds = slice_get (declared_kinds r.schema) set ≡ Some kinds
IsDeclaredAt (In h) set kinds = slice_get (declared_kinds h.schema) set ≡ Some kinds
IsDeclaredAt Nowhere set kinds = Unit {0}
