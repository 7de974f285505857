-- Why a call through a handle is refused. If memory runs out, a call may be refused with no other cause.
use Rattle.std.specs.Prelude.{◌≡◌, ◌≢◌, ◌≤◌, ◌<◌, ◌*◌, ◌^◌, ℕ, false, List, length, Option, Some, None, slice_get}
use Rattle.set_model.specs.SetState.{State, add, removed}
use Rattle.set_model.specs.Control.{as_added, as_created, as_deleted}
use Rattle.set_model.specs.declared.kind.Kind.{Kind}
use Rattle.set_model.specs.declared.report.Why.{Why}
use Rattle.set_space.specs.Open.{Open}
use Rattle.gen_publish.specs.Publish.{Steering}
use Rattle.packed_values.specs.Packed.{packed_length, parts_in, IsBounds, all_rise}
use Rattle.c_handles.specs.Codes.{code_of, refused_as}
use Rattle.c_handles.specs.Calls.{IsElement, kinds_at, kinds_in, element_in}
use Rattle.c_handles.specs.Seats.{SeatView}
use Rattle.c_handles.specs.declared.answer.Answer.{Answer}
use Rattle.c_handles.specs.declared.fault.Fault.{Fault}
use Rattle.c_handles.specs.declared.fault.Fault.TheVariants.{Memory, Empty, Handle, Set, Length, Interval, Turn, Numbers, Refused}
use Rattle.c_handles.specs.declared.object.Object.{Object}
use Rattle.c_handles.specs.declared.object.Object.TheVariants.{Control, Reader, Elements}
use Rattle.c_handles.specs.declared.place.Place.{Place}
use Rattle.c_handles.specs.declared.place.Place.TheVariants.{Out, In, Nowhere}

-- A call with this number was refused: the handle holds nothing, or what it holds gives the cause.
abbrev pub IsRefusal : (Object → Fault → Type 0) → Option Object → ℕ → Type 0
IsRefusal refuses None code = code ≡ code_of Empty
IsRefusal refuses (Some x) code = (fault : Fault) × (code ≡ code_of fault) × refuses x fault

-- The same of a change, whose answer has the element in the way or the field that is full.
abbrev pub IsRefusedChange : (Object → Fault → Type 0) → Option Object → ℕ → Answer → Type 0
IsRefusedChange refuses None code answer = (code ≡ code_of Empty) × (answer ≡ refused_as Empty)
IsRefusedChange refuses (Some x) code answer = (fault : Fault) × (code ≡ code_of fault) × (answer ≡ refused_as fault) × refuses x fault

-- Why bytes aren't taken for an element of a control's set: there is no such set; they aren't two keys of it; an interval
-- falls. Memory is asked for only if they are two keys.
abbrev pub RefusesBounds : Steering → ℕ → List ℕ → Fault → Type 0
RefusesBounds c set bounds Set = length c.schema ≤ set
RefusesBounds c set bounds Length = (set < length c.schema) × (length bounds ≢ 2 * packed_length (kinds_at c.schema set))
RefusesBounds c set bounds Interval = (set < length c.schema) × IsBounds (kinds_at c.schema set) bounds × (all_rise (parts_in (kinds_at c.schema set) bounds) ≡ false)
RefusesBounds c set bounds Memory = (set < length c.schema) × IsBounds (kinds_at c.schema set) bounds
RefusesBounds c set bounds other = ⊥

-- The open set at a place refuses a change for this reason.
abbrev pub IsRefusedAt : (State → Option Why) → Open → ℕ → Why → Type 0
IsRefusedAt refusal work set why = (s : State) × (slice_get work.sets set ≡ Some s) × (refusal s ≡ Some why)

-- Why a change is refused: its bytes aren't taken, or the set refuses an element that is good.
abbrev pub RefusesChange : (State → Option Why) → Steering → ℕ → List ℕ → Fault → Type 0
RefusesChange refusal c set bounds (Refused why) = IsElement c set bounds × IsRefusedAt refusal c.work set why
RefusesChange refusal c set bounds fault = RefusesBounds c set bounds fault

abbrev pub RefusesInsertion : ℕ → List ℕ → ℕ → List ℕ → ℕ → Object → Fault → Type 0
RefusesInsertion set bounds expiry comment now (Control c) fault = RefusesChange (λ s. (as_added (add s (element_in c.schema set bounds expiry comment) now)).0) c set bounds fault
RefusesInsertion set bounds expiry comment now (Reader s) fault = fault ≡ Handle
RefusesInsertion set bounds expiry comment now (Elements e) fault = fault ≡ Handle

abbrev pub RefusesCreation : ℕ → List ℕ → ℕ → List ℕ → ℕ → Object → Fault → Type 0
RefusesCreation set bounds expiry comment now (Control c) fault = RefusesChange (λ s. (as_created s (add s (element_in c.schema set bounds expiry comment) now)).0) c set bounds fault
RefusesCreation set bounds expiry comment now (Reader s) fault = fault ≡ Handle
RefusesCreation set bounds expiry comment now (Elements e) fault = fault ≡ Handle

abbrev pub RefusesDeletion : ℕ → List ℕ → ℕ → Object → Fault → Type 0
RefusesDeletion set bounds now (Control c) fault = RefusesChange (λ s. (as_deleted s (removed s (parts_in (kinds_at c.schema set) bounds) now)).0) c set bounds fault
RefusesDeletion set bounds now (Reader s) fault = fault ≡ Handle
RefusesDeletion set bounds now (Elements e) fault = fault ≡ Handle

-- No set refuses a destruction.
abbrev pub RefusesDestruction : ℕ → List ℕ → Object → Fault → Type 0
RefusesDestruction set bounds (Control c) fault = RefusesBounds c set bounds fault
RefusesDestruction set bounds (Reader s) fault = fault ≡ Handle
RefusesDestruction set bounds (Elements e) fault = fault ≡ Handle

abbrev pub RefusesFlush : ℕ → Object → Fault → Type 0
RefusesFlush set (Control c) Set = length c.schema ≤ set
RefusesFlush set (Control c) Memory = set < length c.schema
RefusesFlush set (Control c) other = ⊥
RefusesFlush set (Reader s) fault = fault ≡ Handle
RefusesFlush set (Elements e) fault = fault ≡ Handle

abbrev pub RefusesCommit : Object → Fault → Type 0
RefusesCommit (Control c) Numbers = 2 ^ 63 ≤ c.work.base.number
RefusesCommit (Control c) Memory = c.work.base.number < 2 ^ 63
RefusesCommit (Control c) other = ⊥
RefusesCommit (Reader s) fault = fault ≡ Handle
RefusesCommit (Elements e) fault = fault ≡ Handle

-- An abort, and the number of the last generation: only a reader's handle is refused.
abbrev pub RefusesReaders : Object → Fault → Type 0
RefusesReaders (Control c) fault = ⊥
RefusesReaders (Reader s) fault = fault ≡ Handle
RefusesReaders (Elements e) fault = fault ≡ Handle

abbrev pub IsNotOut : Place → Type 0
IsNotOut (Out r) = ⊥
IsNotOut (In h) = Unit {0}
IsNotOut Nowhere = Unit {0}

abbrev pub IsNotIn : Place → Type 0
IsNotIn (Out r) = Unit {0}
IsNotIn (In h) = ⊥
IsNotIn Nowhere = Unit {0}

-- An entry is refused if the reader holds a generation.
abbrev pub RefusesEntry : Object → Fault → Type 0
RefusesEntry (Control c) fault = fault ≡ Handle
RefusesEntry (Reader s) fault = (fault ≡ Turn) × IsNotOut s.place
RefusesEntry (Elements e) fault = fault ≡ Handle

-- What a reader does with its generation is refused if it holds none.
abbrev pub RefusesHolder : Object → Fault → Type 0
RefusesHolder (Control c) fault = fault ≡ Handle
RefusesHolder (Reader s) fault = (fault ≡ Turn) × IsNotIn s.place
RefusesHolder (Elements e) fault = fault ≡ Handle

-- Why a reader doesn't look up bytes, of which there must be so many for the set's kinds: there is no such set; there are
-- too few or too many; the reader isn't there.
abbrev pub RefusesKeys : (List Kind → ℕ) → ℕ → ℕ → SeatView → Fault → Type 0
RefusesKeys wanted set bytes s Set = length s.kinds ≤ set
RefusesKeys wanted set bytes s Length = (set < length s.kinds) × (bytes ≢ wanted (kinds_in s.kinds set))
RefusesKeys wanted set bytes s Turn = (set < length s.kinds) × (s.place ≡ Nowhere)
RefusesKeys wanted set bytes s other = ⊥

-- Why a reader doesn't look up a key of so many bytes.
abbrev pub RefusesLookup : ℕ → ℕ → Object → Fault → Type 0
RefusesLookup set bytes (Control c) fault = fault ≡ Handle
RefusesLookup set bytes (Reader s) fault = RefusesKeys (λ kinds. packed_length kinds) set bytes s fault
RefusesLookup set bytes (Elements e) fault = fault ≡ Handle

-- Why a reader doesn't look up so many keys of so many bytes together.
abbrev pub RefusesLookups : ℕ → ℕ → ℕ → Object → Fault → Type 0
RefusesLookups set count bytes (Control c) fault = fault ≡ Handle
RefusesLookups set count bytes (Reader s) fault = RefusesKeys (λ kinds. count * packed_length kinds) set bytes s fault
RefusesLookups set count bytes (Elements e) fault = fault ≡ Handle
