-- What a deletion returns, and the set that it leaves.
use Rattle.std.specs.Prelude.{◌≡◌, ℕ, Option, Some, None, Result, Ok, Err}
use Rattle.set_model.specs.SetState.{State}
use Rattle.set_model.specs.declared.report.Why.TheVariants.{Missing}
use Rattle.pipapo_image.specs.declared.answers.ChangeError.{ChangeError}
use Rattle.pipapo_image.specs.declared.answers.ChangeError.TheVariants.{Refused, Memory}

-- Either the call returns the id and leaves the set without the element, or the element is missing,
-- or memory ran out. In the last two cases the set is unchanged.
abbrev pub IsRemoval : Option (ℕ × State) → Result ℕ ChangeError → State → State → Type 0
IsRemoval answer (Ok id) old new = answer ≡ Some (id, new)
IsRemoval answer (Err (Refused why)) old new = (why ≡ Missing) × (answer ≡ None) × (new ≡ old)
IsRemoval answer (Err Memory) old new = new ≡ old
