-- The kinds of a set stay.
use Rattle.std.proofs.Common.{◌≡◌, ◌∙◌, ap, ℕ, Result, Ok, Err}
use Rattle.set_model.specs.declared.element.NewElement.{NewElement}
use Rattle.set_model.specs.SetState.{State, add}
use Rattle.pipapo_image.specs.declared.answers.Added.{Added}
use Rattle.pipapo_image.specs.declared.answers.ChangeError.{ChangeError}
use Rattle.pipapo_image.specs.declared.answers.ChangeError.TheVariants.{Refused, Memory}
use Rattle.pipapo_image.specs.Image.Insert.{IsAnswer}
use Rattle.pipapo_image.proofs.AddKeeps.{add_keeps}

-- by an insertion, whatever it answers
pub inserted-kinds : (s t : State) (e : NewElement) (now : ℕ) (r : Result Added ChangeError) → IsAnswer (add s e now) r s t → t.kinds ≡ s.kinds
inserted-kinds s t e now (Ok came) h = ap (λ (u : State). u.kinds) h.1 ∙ (add_keeps s e now).kinds
inserted-kinds s t e now (Err (Refused why)) h = ap (λ (u : State). u.kinds) h.1 ∙ (add_keeps s e now).kinds
inserted-kinds s t e now (Err Memory) h = ap (λ (u : State). u.kinds) h
