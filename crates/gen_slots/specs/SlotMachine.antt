-- The slot machine: its state and its events.
use Rattle.std.specs.Prelude.{◌≡◌, ℕ, ◌+◌, ◌%◌, ◌<◌, ◌≤◌, ◌==◌, Bool, true, false, List, ◌∷◌, length, replicate, slice_index, slice_index_or, slice_set, Option, Some, None, count_by}
use Rattle.gen_slots.specs.declared.machine.Standing.{Standing}
use Rattle.gen_slots.specs.declared.machine.Standing.TheVariants.{Published, Retired, Free}

-- for each slot its counts of leaves and enters and its status, and for each reader the slot that
-- it holds
pub record Machine : Type 0 where
  pub readers : ℕ
  pub published : ℕ
  pub done : List ℕ
  pub entered : List ℕ
  pub standing : List Standing
  pub held : List (Option ℕ)

abbrev pub machine : ℕ → ℕ → List ℕ → List ℕ → List Standing → List (Option ℕ) → Machine
machine readers published done entered standing held = record { readers = readers; published = published; done = done; entered = entered; standing = standing; held = held }

-- the slot that the reader holds
abbrev pub holder : Machine → ℕ → Option ℕ
holder m r = slice_index_or m.held r None

abbrev pub standing_of : Machine → ℕ → Standing
standing_of m s = slice_index_or m.standing s Free

abbrev pub is_slot : ℕ → Option ℕ → Bool
is_slot s (Some t) = t == s
is_slot s None = false

-- how many readers hold the slot
abbrev pub holders : Machine → ℕ → ℕ
holders m s = count_by (is_slot s) m.held

-- the count of the slot rises by one, modulo 2 ^ 56
abbrev pub incremented_at : List ℕ → ℕ → List ℕ
incremented_at counts s = slice_set counts s ((slice_index counts s + 1) % 72057594037927936)

-- the reader enters: it holds the published slot, whose count of enters rises by one
abbrev pub entered_by : ℕ → Machine → Machine
entered_by r m = record m { held = slice_set m.held r (Some m.published); entered = incremented_at m.entered m.published }

abbrev pub left_from : ℕ → Option ℕ → Machine → Machine
left_from r (Some s) m = record m { held = slice_set m.held r None; done = incremented_at m.done s }
left_from r None m = m

-- the reader leaves: it holds nothing, and its slot's count of leaves rises by one
abbrev pub left_by : ℕ → Machine → Machine
left_by r m = left_from r (holder m r) m

-- the slot is checked: it becomes free if the answer is true
abbrev pub checked_at : ℕ → Bool → Machine → Machine
checked_at s true m = record m { standing = slice_set m.standing s Free }
checked_at s false m = m

-- the slot is published, and starts with its count of leaves as its count of enters; the slot that
-- was published retires
abbrev pub with_published : ℕ → Machine → Machine
with_published s m = record m { published = s; standing = slice_set (slice_set m.standing m.published Retired) s Published; entered = slice_set m.entered s (slice_index m.done s) }

-- at the start slot 0 is published, the others are free, all counts are equal, and nobody holds a slot
abbrev pub initial : ℕ → ℕ → Machine
initial readers start = record { readers = readers; published = 0; done = replicate (readers + 2) start; entered = replicate (readers + 2) start; standing = Published ∷ replicate (readers + 1) Free; held = replicate readers None }

-- The invariants that every event keeps. By `counted` the enters are the leaves and the holders
-- together, modulo 2 ^ 56.
pub record IsConsistent (m : Machine) : Type 0 where
  pub some : 0 < m.readers
  pub few : m.readers ≤ 16
  pub counted : (s : ℕ) → s < m.readers + 2 → (slice_index m.done s + holders m s) % 72057594037927936 ≡ slice_index m.entered s
  pub small : (s : ℕ) → (slice_index m.done s < 72057594037927936) × (slice_index m.entered s < 72057594037927936)
  pub free : (s : ℕ) → s < m.readers + 2 → standing_of m s ≡ Free → holders m s ≡ 0
  pub published : (m.published < m.readers + 2) × (standing_of m m.published ≡ Published)
  pub alone : (s : ℕ) → standing_of m s ≡ Published → s ≡ m.published
  pub inside : (r s : ℕ) → holder m r ≡ Some s → s < m.readers + 2
  pub wide : (length m.done ≡ m.readers + 2) × (length m.entered ≡ m.readers + 2) × (length m.standing ≡ m.readers + 2) × (length m.held ≡ m.readers)
