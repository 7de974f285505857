-- A change in a copy of a set: its answer and the copy. The set itself is unchanged.
use Rattle.std.specs.Prelude.{ℕ, Option, Some, None, Result, Ok, Err}
use Rattle.set_model.specs.SetState.{State}
use Rattle.pipapo_image.specs.declared.answers.ChangeError.{ChangeError}
use Rattle.pipapo_image.specs.Image.Remove.{IsRemoval}
use Rattle.set_space.specs.declared.lazy_image.LazyImage.{LazyImage}
use Rattle.set_space.specs.LazyImage.{set_of}

-- the set of a copy, or the set itself if there is no copy
abbrev pub copied : Option LazyImage → State → State
copied (Some copy) s = set_of copy
copied None s = s

-- A deletion leaves this copy, or is refused.
abbrev pub IsTakenOut : Option (ℕ × State) → State → Result (ℕ × LazyImage) ChangeError → Type 0
IsTakenOut removed s (Ok (id, copy)) = IsRemoval removed (Ok id) s (set_of copy)
IsTakenOut removed s (Err error) = IsRemoval removed (Err error) s s
