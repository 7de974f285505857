-- What is decided of an insertion before anything changes, with its answer and the set that it
-- leaves if it is carried out.
use Rattle.std.specs.Prelude.{◌≡◌, ℕ, ◌-◌, ◌^◌, ◌<◌, List, length, Option, Some, None, Result, Ok, Err}
use Rattle.set_model.specs.declared.block.Block.{Block}
use Rattle.set_model.specs.declared.kind.Interval.{Interval}
use Rattle.set_model.specs.declared.element.NewElement.{NewElement}
use Rattle.set_model.specs.SetState.{State, Addition, crowded_field, renewed, with_element}
use Rattle.set_model.specs.SetState.Addition.{New, Already, Renewed, Refused}
use Rattle.pipapo_image.specs.declared.answers.ChangeError.{ChangeError}
use Rattle.pipapo_image.specs.declared.answers.ChangeError.TheVariants as errors
use Rattle.pipapo_image.specs.declared.image.decision.Decision.{Decision}
use Rattle.pipapo_image.specs.declared.image.decision.Decision.TheVariants.{Stays, Renews, Adds}
use Rattle.pipapo_image.specs.Index.Built.{Built}
use Rattle.pipapo_image.specs.Index.Grow.{IsColumn}

-- A new element of these intervals is within all limits, and these are its rules.
pub record IsWithinLimits (s : State) (parts : List Interval) (columns : List (List Block)) : Type 0 where
  pub one_each : Built (IsColumn s.kinds parts) columns (length s.kinds)
  pub few : crowded_field s parts ≡ None
  pub next : s.next < 2 ^ 64 - 1

-- the result if this is carried out
abbrev pub comes : Decision → ℕ → Addition
comes (Stays id) next = Already id
comes (Renews i id) next = Renewed id
comes (Adds columns) next = New next

-- the id of the element that is there already
abbrev pub existing : Decision → Option ℕ
existing (Stays id) = Some id
existing (Renews i id) = Some id
existing (Adds columns) = None

-- the set that is left
abbrev pub set_left : State → NewElement → Decision → State
set_left s e (Stays id) = s
set_left s e (Renews i id) = renewed s i e.expiry
set_left s e (Adds columns) = with_element s e

-- It can be carried out.
abbrev pub CanBeDone : State → List Interval → Decision → Type 0
CanBeDone s parts (Stays id) = Unit
CanBeDone s parts (Renews i id) = i < length s.elements
CanBeDone s parts (Adds columns) = IsWithinLimits s parts columns.items

-- Either this is to be carried out, or it is a refusal, or memory ran out.
abbrev pub IsDecision : State → NewElement → Addition × State → Result Decision ChangeError → Type 0
IsDecision s e answer (Ok decision) = CanBeDone s e.parts decision × (answer ≡ (comes decision s.next, set_left s e decision))
IsDecision s e answer (Err (errors.Refused why)) = answer ≡ (Refused why, s)
IsDecision s e answer (Err errors.Memory) = Unit
