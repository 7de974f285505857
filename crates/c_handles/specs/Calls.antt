-- What calls through handles do.
use Rattle.std.specs.Prelude.{◌≡◌, ℕ, zero, suc, ◌-◌, ◌*◌, ◌<◌, ◌∷◌, length, take, drop, ◌^◌, true, List, [], Option, Some, None, Ok, nat_eq, if◌then◌else◌, slice_get}
use Rattle.history_laws.specs.Histories.{StartsWith, EndsWith}
use Rattle.set_model.specs.Control.{Generation}
use Rattle.set_model.specs.SetState.{State, add, removed}
use Rattle.set_model.specs.declared.kind.Kind.{Kind}
use Rattle.set_model.specs.declared.script.SetDecl.{SetDecl}
use Rattle.set_model.specs.declared.element.NewElement.{NewElement}
use Rattle.pipapo_image.specs.Image.Found.{found}
use Rattle.pipapo_image.specs.Image.Insert.{IsAnswer}
use Rattle.pipapo_image.specs.Image.Remove.{IsRemoval}
use Rattle.pipapo_image.specs.declared.answers.Added.{Added}
use Rattle.set_space.specs.Answers.{IsCreation, IsDestruction, IsFlush}
use Rattle.set_space.specs.Open.{IsChange, opened}
use Rattle.gen_publish.specs.Publish.{Steering, IsCommit}
use Rattle.gen_publish.specs.declared.receipt.Receipt.{Receipt}
use Rattle.packed_values.specs.Packed.{values_in, parts_in, packed_length, IsBounds, all_rise}
use Rattle.c_handles.specs.Codes.{id_of, added_as, created_as, removed_as, destroyed_as}
use Rattle.c_handles.specs.declared.answer.Answer.{Answer}
use Rattle.c_handles.specs.declared.object.Object.{Object}
use Rattle.c_handles.specs.declared.object.Object.TheVariants.{Control, Reader, Elements}
use Rattle.c_handles.specs.declared.place.Place.{Place}
use Rattle.c_handles.specs.declared.place.Place.TheVariants.{Out, In, Nowhere}

-- the generations that a reader at a place has seen
abbrev pub seen_at : Place → List Generation
seen_at (Out r) = r.seen
seen_at (In h) = h.seen
seen_at Nowhere = []

-- what an object has seen, if it is a reader
abbrev pub seen_of : Object → List Generation
seen_of (Control c) = []
seen_of (Reader s) = seen_at s.place
seen_of (Elements e) = []

-- what the reader of a handle has seen
abbrev pub seen_by : Option Object → List Generation
seen_by None = []
seen_by (Some x) = seen_of x

-- the kinds of the sets that a reader looks up in
abbrev pub kinds_of : Object → List (List Kind)
kinds_of (Control c) = []
kinds_of (Reader s) = s.kinds
kinds_of (Elements e) = []

abbrev pub kinds_by : Option Object → List (List Kind)
kinds_by None = []
kinds_by (Some x) = kinds_of x

-- the kinds of one of these sets; none if there is no such set
abbrev pub kinds_or_none : Option (List Kind) → List Kind
kinds_or_none None = []
kinds_or_none (Some kinds) = kinds

abbrev pub kinds_in : List (List Kind) → ℕ → List Kind
kinds_in all set = kinds_or_none (slice_get all set)

-- So many bytes are a key of the set at a place.
abbrev pub TakesKey : List (List Kind) → ℕ → ℕ → Type 0
TakesKey all set bytes = (set < length all) × (bytes ≡ packed_length (kinds_in all set))

-- So many bytes are so many keys of the set at a place.
abbrev pub TakesKeys : List (List Kind) → ℕ → ℕ → ℕ → Type 0
TakesKeys all set count bytes = (set < length all) × (bytes ≡ count * packed_length (kinds_in all set))

-- the kinds of a declared set; none if it isn't declared
abbrev pub kinds_of_set : Option SetDecl → List Kind
kinds_of_set None = []
kinds_of_set (Some d) = d.kinds

abbrev pub kinds_at : List SetDecl → ℕ → List Kind
kinds_at schema set = kinds_of_set (slice_get schema set)

-- Two keys of a declared set are the bounds of an element if no interval falls.
pub record IsElement (c : Steering) (set : ℕ) (bounds : List ℕ) : Type 0 where
  pub declared : set < length c.schema
  pub two_keys : IsBounds (kinds_at c.schema set) bounds
  pub rise : all_rise (parts_in (kinds_at c.schema set) bounds) ≡ true

-- The handle's reader moved from one place to another, and looks up in the same sets.
abbrev pub HasMoved : (Place → Place → Type 0) → Option Object → Option Object → Type 0
HasMoved step (Some (Reader s)) (Some (Reader t)) = step s.place t.place × (t.kinds ≡ s.kinds)
HasMoved step old new = ⊥

-- In a generation the id of a key is that of the definition, for the values that the bytes stand for.
abbrev pub IsIdIn : Generation → List Kind → ℕ → List ℕ → ℕ → ℕ → Type 0
IsIdIn g kinds set key now id = (s : State) → slice_get g.sets set ≡ Some s → id ≡ id_of (found s (values_in kinds key) now)

-- A lookup: the reader has seen what it had seen, and the id is of the last generation that it has seen.
pub record HasFound (old : List Generation) (new : List Generation) (kinds : List Kind) (set : ℕ) (key : List ℕ) (now : ℕ) (id : ℕ) : Type 0 where
  pub seen : StartsWith new old
  pub is : (g : Generation) → EndsWith new g → IsIdIn g kinds set key now id

-- the ids of so many keys, each of so many bytes, one after the other
abbrev pub ids_in : State → List Kind → ℕ → ℕ → ℕ → List ℕ → List ℕ
ids_in s kinds size now zero bytes = []
ids_in s kinds size now (suc n) bytes = id_of (found s (values_in kinds (take size bytes)) now) ∷ ids_in s kinds size now n (drop size bytes)

-- In a generation the ids of many keys are those of the definition, and this is its number.
pub record AreFound (g : Generation) (kinds : List Kind) (set : ℕ) (bytes : List ℕ) (now : ℕ) (ids : List ℕ) (number : ℕ) : Type 0 where
  pub numbered : number ≡ g.number
  pub are : (s : State) → slice_get g.sets set ≡ Some s → ids ≡ ids_in s kinds (packed_length kinds) now (length ids) bytes

-- A lookup of many keys: the reader has seen what it had seen, and the ids are of the last generation that it has seen.
pub record HasFoundAll (old : List Generation) (new : List Generation) (kinds : List Kind) (set : ℕ) (bytes : List ℕ) (now : ℕ) (ids : List ℕ) (number : ℕ) : Type 0 where
  pub seen : StartsWith new old
  pub answers : (g : Generation) → EndsWith new g → AreFound g kinds set bytes now ids number

-- The number is that of the last generation that a reader has seen.
abbrev pub HasGeneration : List Generation → ℕ → Type 0
HasGeneration seen number = (g : Generation) → EndsWith seen g → number ≡ g.number

-- An entry: the reader has seen what it had seen, and the number is that of the last generation that it has seen.
pub record HasEntered (old : List Generation) (new : List Generation) (number : ℕ) : Type 0 where
  pub seen : StartsWith new old
  pub is : HasGeneration new number

-- the expiry that a number stands for: none for the largest
abbrev pub expiry_of : ℕ → Option ℕ
expiry_of e = if nat_eq e (2 ^ 64 - 1) then None else Some e

-- the element that C hands in for a declared set
abbrev pub element_in : List SetDecl → ℕ → List ℕ → ℕ → List ℕ → NewElement
element_in schema set bounds expiry comment = record { parts = parts_in (kinds_at schema set) bounds; expiry = expiry_of expiry; comment = comment }

-- A control inserted.
abbrev pub Inserts : Object → ℕ → List ℕ → ℕ → List ℕ → ℕ → Object → Added → Type 0
Inserts (Control old) set bounds expiry comment now (Control new) added =
    IsChange (λ s t. IsAnswer (add s (element_in old.schema set bounds expiry comment) now) (Ok added) s t) old.work set new.work × (new ≡ record old { work = new.work }) × IsElement old set bounds
Inserts (Control old) set bounds expiry comment now (Reader s) added = ⊥
Inserts (Control old) set bounds expiry comment now (Elements e) added = ⊥
Inserts (Reader s) set bounds expiry comment now new added = ⊥
Inserts (Elements e) set bounds expiry comment now new added = ⊥

abbrev pub HasInserted : Option Object → ℕ → List ℕ → ℕ → List ℕ → ℕ → Option Object → Answer → Type 0
HasInserted (Some old) set bounds expiry comment now (Some new) answer = (added : Added) × (answer ≡ added_as added) × Inserts old set bounds expiry comment now new added
HasInserted (Some old) set bounds expiry comment now None answer = ⊥
HasInserted None set bounds expiry comment now new answer = ⊥

-- A control created an element.
abbrev pub Creates : Object → ℕ → List ℕ → ℕ → List ℕ → ℕ → Object → ℕ → Type 0
Creates (Control old) set bounds expiry comment now (Control new) id =
    IsChange (λ s t. IsCreation (add s (element_in old.schema set bounds expiry comment) now) (Ok id) s t) old.work set new.work × (new ≡ record old { work = new.work }) × IsElement old set bounds
Creates (Control old) set bounds expiry comment now (Reader s) id = ⊥
Creates (Control old) set bounds expiry comment now (Elements e) id = ⊥
Creates (Reader s) set bounds expiry comment now new id = ⊥
Creates (Elements e) set bounds expiry comment now new id = ⊥

abbrev pub HasCreated : Option Object → ℕ → List ℕ → ℕ → List ℕ → ℕ → Option Object → Answer → Type 0
HasCreated (Some old) set bounds expiry comment now (Some new) answer = (id : ℕ) × (answer ≡ created_as id) × Creates old set bounds expiry comment now new id
HasCreated (Some old) set bounds expiry comment now None answer = ⊥
HasCreated None set bounds expiry comment now new answer = ⊥

-- A control deleted an element.
abbrev pub Deletes : Object → ℕ → List ℕ → ℕ → Object → ℕ → Type 0
Deletes (Control old) set bounds now (Control new) id =
    IsChange (λ s t. IsRemoval (removed s (parts_in (kinds_at old.schema set) bounds) now) (Ok id) s t) old.work set new.work × (new ≡ record old { work = new.work }) × IsElement old set bounds
Deletes (Control old) set bounds now (Reader s) id = ⊥
Deletes (Control old) set bounds now (Elements e) id = ⊥
Deletes (Reader s) set bounds now new id = ⊥
Deletes (Elements e) set bounds now new id = ⊥

abbrev pub HasDeleted : Option Object → ℕ → List ℕ → ℕ → Option Object → Answer → Type 0
HasDeleted (Some old) set bounds now (Some new) answer = (id : ℕ) × (answer ≡ removed_as id) × Deletes old set bounds now new id
HasDeleted (Some old) set bounds now None answer = ⊥
HasDeleted None set bounds now new answer = ⊥

-- A control deleted an element, or there was none.
abbrev pub Destroys : Object → ℕ → List ℕ → ℕ → Object → Option ℕ → Type 0
Destroys (Control old) set bounds now (Control new) id =
    IsChange (λ s t. IsDestruction (removed s (parts_in (kinds_at old.schema set) bounds) now) (Ok id) s t) old.work set new.work × (new ≡ record old { work = new.work }) × IsElement old set bounds
Destroys (Control old) set bounds now (Reader s) id = ⊥
Destroys (Control old) set bounds now (Elements e) id = ⊥
Destroys (Reader s) set bounds now new id = ⊥
Destroys (Elements e) set bounds now new id = ⊥

abbrev pub HasDestroyed : Option Object → ℕ → List ℕ → ℕ → Option Object → Answer → Type 0
HasDestroyed (Some old) set bounds now (Some new) answer = (id : Option ℕ) × (answer ≡ destroyed_as id) × Destroys old set bounds now new id
HasDestroyed (Some old) set bounds now None answer = ⊥
HasDestroyed None set bounds now new answer = ⊥

-- A control cleared a set.
abbrev pub Flushes : Object → ℕ → Object → ℕ → Type 0
Flushes (Control old) set (Control new) count = IsChange (λ s t. IsFlush (Ok count) s t) old.work set new.work × (new ≡ record old { work = new.work })
Flushes (Control old) set (Reader s) count = ⊥
Flushes (Control old) set (Elements e) count = ⊥
Flushes (Reader s) set new count = ⊥
Flushes (Elements e) set new count = ⊥

abbrev pub HasFlushed : Option Object → ℕ → Option Object → ℕ → Type 0
HasFlushed (Some old) set (Some new) count = Flushes old set new count
HasFlushed (Some old) set None count = ⊥
HasFlushed None set new count = ⊥

-- A control committed.
abbrev pub Commits : Object → ℕ → Object → Receipt → Type 0
Commits (Control old) now (Control new) receipt = IsCommit old now new receipt
Commits (Control old) now (Reader s) receipt = ⊥
Commits (Control old) now (Elements e) receipt = ⊥
Commits (Reader s) now new receipt = ⊥
Commits (Elements e) now new receipt = ⊥

abbrev pub HasCommitted : Option Object → ℕ → Option Object → Receipt → Type 0
HasCommitted (Some old) now (Some new) receipt = Commits old now new receipt
HasCommitted (Some old) now None receipt = ⊥
HasCommitted None now new receipt = ⊥

-- A control took its open changes back.
abbrev pub Aborts : Object → Object → Type 0
Aborts (Control old) (Control new) = new ≡ record old { work = opened old.work.base }
Aborts (Control old) (Reader s) = ⊥
Aborts (Control old) (Elements e) = ⊥
Aborts (Reader s) new = ⊥
Aborts (Elements e) new = ⊥

abbrev pub HasAborted : Option Object → Option Object → Type 0
HasAborted (Some old) (Some new) = Aborts old new
HasAborted (Some old) None = ⊥
HasAborted None new = ⊥

-- The number is that of a control's last generation.
abbrev pub IsNumber : Object → ℕ → Type 0
IsNumber (Control c) number = number ≡ c.work.base.number
IsNumber (Reader s) number = ⊥
IsNumber (Elements e) number = ⊥

abbrev pub HasNumber : Option Object → ℕ → Type 0
HasNumber (Some x) number = IsNumber x number
HasNumber None number = ⊥
