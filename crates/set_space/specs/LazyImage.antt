-- A set by its image, which may still have elements that left the set.
use Rattle.std.specs.Prelude.{◌≡◌, ℕ, max, Bool, true, false, not, Option, Some, None, Result, Ok, Err}
use Rattle.set_model.specs.declared.element.NewElement.{NewElement}
use Rattle.set_model.specs.declared.report.Why.TheVariants.{RulesFull}
use Rattle.set_model.specs.Expiry.{lives}
use Rattle.set_model.specs.SetState.{State, Addition}
use Rattle.set_model.specs.SetState.Addition.{Refused}
use Rattle.pipapo_image.specs.declared.answers.ChangeError.{ChangeError}
use Rattle.pipapo_image.specs.declared.answers.ChangeError.TheVariants as errors
use Rattle.pipapo_image.specs.declared.image.decision.Decision.{Decision}
use Rattle.pipapo_image.specs.declared.image.decision.Decision.TheVariants.{Stays, Renews, Adds}
use Rattle.pipapo_image.specs.Image.Decision.{CanBeDone, comes, set_left}
use Rattle.set_space.specs.Staying.{staying}
use Rattle.set_space.specs.declared.lazy_image.LazyImage.{LazyImage}

-- the set that a lazy image represents
abbrev pub set_of : LazyImage → State
set_of lazy = staying lazy.passed lazy.image

-- the moment at which the image answers what the set answers at `now`
abbrev pub moment : Option ℕ → ℕ → ℕ
moment None now = now
moment (Some m) now = max m now

-- A field's number of rules refuses the element.
abbrev pub is_at_limit : Result Decision ChangeError → Bool
is_at_limit (Err (errors.Refused (RulesFull f))) = true
is_at_limit r = false

-- The image would take an element with this expiry for one that left.
abbrev pub would_leave : Option ℕ → Option ℕ → Bool
would_leave None expiry = false
would_leave (Some m) expiry = not (lives expiry m)

-- The number of rules refuses the element, and elements that left have rules, too.
abbrev pub wants_room : Option ℕ → Result Decision ChangeError → Bool
wants_room None r = false
wants_room (Some m) r = is_at_limit r

-- how many elements a decision adds
abbrev pub added_by : Decision → ℕ
added_by (Stays id) = 0
added_by (Renews i id) = 0
added_by (Adds columns) = 1

-- Either the image decides this, and the set without the elements that left gives the same answer;
-- or it is a refusal; or memory ran out.
abbrev pub IsLazyDecision : Option ℕ → State → NewElement → Addition × State → Result Decision ChangeError → Type 0
IsLazyDecision passed image e answer (Ok decision) = CanBeDone image e.parts decision × (answer ≡ (comes decision image.next, staying passed (set_left image e decision)))
IsLazyDecision passed image e answer (Err (errors.Refused why)) = answer ≡ (Refused why, staying passed image)
IsLazyDecision passed image e answer (Err errors.Memory) = Unit
