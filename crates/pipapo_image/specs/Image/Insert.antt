-- What an insertion returns, and the set that it leaves.
use Rattle.std.specs.Prelude.{◌≡◌, Result, Ok, Err}
use Rattle.set_model.specs.SetState.{State, Addition}
use Rattle.set_model.specs.SetState.Addition.{New, Already, Renewed, Refused}
use Rattle.pipapo_image.specs.declared.answers.Added.{Added as Came}
use Rattle.pipapo_image.specs.declared.answers.Added.TheVariants.{New as CameNew, Already as CameAlready, Renewed as CameRenewed}
use Rattle.pipapo_image.specs.declared.answers.ChangeError.{ChangeError}
use Rattle.pipapo_image.specs.declared.answers.ChangeError.TheVariants as errors

-- the result that the answer of a call names, if memory didn't run out
abbrev pub addition_said : Came → Addition
addition_said (CameNew id) = New id
addition_said (CameAlready id) = Already id
addition_said (CameRenewed id) = Renewed id

-- Either the call gives this answer and leaves this set, or memory ran out and the set is
-- unchanged.
abbrev pub IsAnswer : Addition × State → Result Came ChangeError → State → State → Type 0
IsAnswer answer (Ok came) old new = (addition_said came ≡ answer.0) × (new ≡ answer.1)
IsAnswer answer (Err (errors.Refused why)) old new = (Refused why ≡ answer.0) × (new ≡ answer.1)
IsAnswer answer (Err errors.Memory) old new = new ≡ old
