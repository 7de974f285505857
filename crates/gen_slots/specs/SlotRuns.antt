-- Lists of events of the slot machine, and what holds after each of them.
use Rattle.std.specs.Prelude.{◌≡◌, ◌≢◌, ◌↔◌, ℕ, ◌+◌, ◌%◌, ◌<◌, ◌≤◌, ◌==◌, ◌^◌, List, [], ◌∷◌, Some, None, IsSome, slice_index}
use Rattle.gen_slots.specs.declared.machine.Standing.TheVariants.{Retired, Free}
use Rattle.gen_slots.specs.SlotMachine.{Machine, holder, holders, standing_of, entered_by, left_by, checked_at, with_published, initial}

-- a reader enters or leaves, or the writer checks or publishes a slot
pub data Event : Type 0 where
  enters : ℕ → Event
  leaves : ℕ → Event
  checks : ℕ → Event
  publishes : ℕ → Event

-- when the event may come
abbrev pub MayStep : Machine → Event → Type 0
MayStep m (enters r) = (r < m.readers) × (holder m r ≡ None)
MayStep m (leaves r) = (r < m.readers) × IsSome (holder m r)
MayStep m (checks s) = (s < m.readers + 2) × (standing_of m s ≡ Retired)
MayStep m (publishes s) = (s < m.readers + 2) × (standing_of m s ≡ Free)

-- the machine after the event; a check answers whether the counts agree
abbrev pub after_event : Machine → Event → Machine
after_event m (enters r) = entered_by r m
after_event m (leaves r) = left_by r m
after_event m (checks s) = checked_at s (slice_index m.done s == slice_index m.entered s) m
after_event m (publishes s) = with_published s m

-- the machine after the events, one after another
abbrev pub after_events : Machine → List Event → Machine
after_events m [] = m
after_events m (e ∷ es) = after_events (after_event m e) es

abbrev pub MayRun : Machine → List Event → Type 0
MayRun m [] = Unit {0}
MayRun m (e ∷ es) = MayStep m e × MayRun (after_event m e) es

-- The enters are the leaves and the holders, modulo 2 ^ 56. So the counts agree exactly if nobody
-- holds the slot. A slot that a reader holds isn't free, and isn't published anew.
pub record IsSound (m : Machine) : Type 0 where
  pub counted : (s : ℕ) → s < m.readers + 2 → (slice_index m.done s + holders m s) % 72057594037927936 ≡ slice_index m.entered s
  pub few : (s : ℕ) → holders m s ≤ 16
  pub exact : (s : ℕ) → s < m.readers + 2 → (slice_index m.done s ≡ slice_index m.entered s) ↔ (holders m s ≡ 0)
  pub kept : (r s : ℕ) → r < m.readers → holder m r ≡ Some s → standing_of m s ≢ Free
  pub not_anew : (r s t : ℕ) → r < m.readers → holder m r ≡ Some s → MayStep m (publishes t) → t ≢ s

abbrev pub EveryRun : Type 0
EveryRun = (readers start : ℕ) (events : List Event) → 0 < readers → readers ≤ 16 → start < 2 ^ 56 → MayRun (initial readers start) events → IsSound (after_events (initial readers start) events)
