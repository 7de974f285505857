-- Notes: the number of a generation, which one thread hands to another.
use Rattle.std.specs.Prelude.{◌≡◌, ◌<◌, ◌≤◌, ℕ, List, Option, Some, None}
use Rattle.history_laws.specs.Histories.{EndsWith}
use Rattle.set_model.specs.Control.{Generation}
use Rattle.c_handles.specs.Calls.{HasGeneration, seen_at}
use Rattle.c_handles.specs.Codes.{code_of}
use Rattle.c_handles.specs.Seats.{SeatView, Stays}
use Rattle.c_handles.specs.declared.fault.Fault.{Fault}
use Rattle.c_handles.specs.declared.fault.Fault.TheVariants.{Empty, Handle, Turn, Note}
use Rattle.c_handles.specs.declared.object.Object.{Object}
use Rattle.c_handles.specs.declared.object.Object.TheVariants.{Control, Reader, Elements}
use Rattle.c_handles.specs.declared.place.Place.TheVariants.{Nowhere}

-- A reader has looked at what is published: if it holds a generation, it holds the same one; else it has seen what it had seen,
-- and perhaps more.
abbrev pub HasLooked : SeatView → SeatView → Type 0
HasLooked old new = Stays old.place new.place × (new.kinds ≡ old.kinds)

-- A note of what was committed or seen: the number of the last generation.
abbrev pub HasNoted : Option Object → Option Object → ℕ → Type 0
HasNoted (Some (Control c)) new note = (new ≡ Some (Control c)) × (note ≡ c.work.base.number)
HasNoted (Some (Reader s)) (Some (Reader t)) note = HasLooked s t × HasGeneration (seen_at t.place) note
HasNoted old new note = ⊥

-- No call takes a reader to a place from which there is no note.
abbrev pub RefusesNote : Object → Fault → Type 0
RefusesNote (Control c) fault = ⊥
RefusesNote (Reader s) fault = (fault ≡ Turn) × (s.place ≡ Nowhere)
RefusesNote (Elements e) fault = fault ≡ Handle

-- The last generation that was seen has this number, or a greater one.
abbrev pub HasSeenUpTo : ℕ → List Generation → Type 0
HasSeenUpTo note seen = (g : Generation) → EndsWith seen g → note ≤ g.number

-- It has a smaller one.
abbrev pub IsBefore : ℕ → List Generation → Type 0
IsBefore note seen = (g : Generation) → EndsWith seen g → g.number < note

-- A reader met a note: it has seen the note's generation, or a later one.
abbrev pub HasMet : ℕ → Option Object → Option Object → Type 0
HasMet note (Some (Reader s)) (Some (Reader t)) = HasLooked s t × HasSeenUpTo note (seen_at t.place)
HasMet note old new = ⊥

-- Why a reader doesn't meet a note: all that it has seen is older than the note's generation. It has looked at what is published
-- if it holds none.
abbrev pub RefusesMeeting : ℕ → SeatView → SeatView → Fault → Type 0
RefusesMeeting note s t Note = HasLooked s t × IsBefore note (seen_at t.place)
RefusesMeeting note s t Turn = (s.place ≡ Nowhere) × (t ≡ s)
RefusesMeeting note s t other = ⊥

-- A meeting with this number was refused. What is no reader is as it was.
abbrev pub IsRefusedMeeting : ℕ → Option Object → Option Object → ℕ → Type 0
IsRefusedMeeting note None new code = (code ≡ code_of Empty) × (new ≡ None)
IsRefusedMeeting note (Some (Reader s)) (Some (Reader t)) code = (fault : Fault) × (code ≡ code_of fault) × RefusesMeeting note s t fault
IsRefusedMeeting note (Some (Control c)) new code = (code ≡ code_of Handle) × (new ≡ Some (Control c))
IsRefusedMeeting note (Some (Elements e)) new code = (code ≡ code_of Handle) × (new ≡ Some (Elements e))
IsRefusedMeeting note old new code = ⊥

-- A control heard a note: the note's generation is among those that it committed.
abbrev pub HasHeard : ℕ → Option Object → Type 0
HasHeard note (Some (Control c)) = note ≤ c.work.base.number
HasHeard note held = ⊥

-- Why a control doesn't hear a note: it has committed no generation of this number.
abbrev pub RefusesHearing : ℕ → Object → Fault → Type 0
RefusesHearing note (Control c) Note = c.work.base.number < note
RefusesHearing note (Control c) other = ⊥
RefusesHearing note (Reader s) fault = fault ≡ Handle
RefusesHearing note (Elements e) fault = fault ≡ Handle
