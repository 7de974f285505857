-- What creations, destructions and flushes of one set return, and the set that they leave.
use Rattle.std.specs.Prelude.{◌≡◌, ℕ, length, Option, Some, None, Result, Ok, Err}
use Rattle.set_model.specs.declared.memory.Memory.{Memory as NoMemory}
use Rattle.set_model.specs.SetState.{State, Addition, cleared}
use Rattle.set_model.specs.SetState.Addition.{New}
use Rattle.set_model.specs.Control.{as_created}
use Rattle.pipapo_image.specs.declared.answers.ChangeError.{ChangeError}
use Rattle.pipapo_image.specs.declared.answers.ChangeError.TheVariants.{Refused, Memory}

-- From the result of an addition and the set that it leaves to the result of a creation. A new
-- element is created. What refuses an addition refuses a creation. An element that is there
-- already, or would be renewed, exists.
abbrev pub IsCreation : Addition × State → Result ℕ ChangeError → State → State → Type 0
IsCreation added (Ok id) old new = (added.0 ≡ New id) × (new ≡ added.1)
IsCreation added (Err (Refused why)) old new = ((as_created old added).0 ≡ Some why) × (new ≡ old)
IsCreation added (Err Memory) old new = new ≡ old

-- A destruction removes what a deletion would remove, and accepts a missing element.
abbrev pub IsDestruction : Option (ℕ × State) → Result (Option ℕ) NoMemory → State → State → Type 0
IsDestruction removed (Ok (Some id)) old new = removed ≡ Some (id, new)
IsDestruction removed (Ok None) old new = (removed ≡ None) × (new ≡ old)
IsDestruction removed (Err memory) old new = new ≡ old

-- A flush clears the set and returns how many elements it had.
abbrev pub IsFlush : Result ℕ NoMemory → State → State → Type 0
IsFlush (Ok count) old new = (count ≡ length old.elements) × (new ≡ cleared old)
IsFlush (Err memory) old new = new ≡ old
