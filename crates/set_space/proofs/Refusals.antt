-- A refused addition leaves the set unchanged. An element that exists already is no new element.
use Rattle.std.proofs.Common.{◌≡◌, sym, ◌∙◌, ap, subst, ℕ, Option, Some, Result, Ok, Err, OnErr, IfOk, length}
use Rattle.std.specs.Prelude.{IsErrAnd}
use Rattle.set_model.specs.declared.element.NewElement.{NewElement}
use Rattle.set_model.specs.declared.memory.Memory.{Memory as NoMemory}
use Rattle.set_model.specs.declared.report.Why.TheVariants.{Exists}
use Rattle.set_model.specs.SetState.{State, Addition, add, cleared}
use Rattle.set_model.specs.Control.{as_created}
use Rattle.pipapo_image.specs.declared.answers.Added.{Added as Came}
use Rattle.pipapo_image.specs.declared.answers.ChangeError.{ChangeError}
use Rattle.pipapo_image.specs.declared.answers.ChangeError.TheVariants as errors
use Rattle.pipapo_image.specs.declared.image.decision.Decision.{Decision}
use Rattle.pipapo_image.specs.declared.image.decision.Decision.TheVariants.{Stays, Renews, Adds}
use Rattle.pipapo_image.specs.Image.Decision.{comes, set_left, existing}
use Rattle.pipapo_image.specs.Image.Insert.{IsAnswer, addition_said}
use Rattle.pipapo_image.specs.Image.Remove.{IsRemoval}
use Rattle.pipapo_image.proofs.AddKeeps.{add_keeps}
use Rattle.set_space.specs.LazyImage.{IsLazyDecision}
use Rattle.set_space.specs.Staying.{staying}
use Rattle.set_space.specs.Answers.{IsCreation, IsFlush}

-- ---- of a decision
module _ (p : Option ℕ) (image s : State) (e : NewElement) (now : ℕ) where
  -- What refuses an addition refuses a creation.
  pub creation_refused : (r : Result ℕ ChangeError) (error : ChangeError) → IsErrAnd r (λ z. z ≡ error) → staying p image ≡ s
      → IsLazyDecision p image e (add s e now) (Err error) → IsCreation (add s e now) r s (staying p image)
  creation_refused (Ok id) error is same h = absurd is
  creation_refused (Err f) error is same h = subst (λ z. IsCreation (add s e now) (Err z) s (staying p image)) (sym is) (as_refused error h) where
    as_refused : (error : ChangeError) → IsLazyDecision p image e (add s e now) (Err error) → IsCreation (add s e now) (Err error) s (staying p image)
    as_refused (errors.Refused why) h = (ap (λ z. (as_created s z).0) h, same)
    as_refused errors.Memory h = same

  -- An element that is there already refuses a creation.
  pub creation_exists : (id : ℕ) (decision : Decision) → staying p image ≡ s → IsLazyDecision p image e (add s e now) (Ok decision) → Some id ≡ existing decision
      → IsCreation (add s e now) (Err (errors.Refused (Exists id))) s (staying p image)
  creation_exists id (Stays i) same h is = (ap (λ z. (as_created s z).0) h.1 ∙ cc is, same)
  creation_exists id (Renews p i) same h is = (ap (λ z. (as_created s z).0) h.1 ∙ cc is, same)
  creation_exists id (Adds columns) same h is = absurd (cc is)

  -- A refusal leaves the set unchanged.
  pub insertion_refused : (r : Result Came ChangeError) (error : ChangeError) → IsErrAnd r (λ z. z ≡ error) → staying p image ≡ s
      → IsLazyDecision p image e (add s e now) (Err error) → IsAnswer (add s e now) r s (staying p image)
  insertion_refused (Ok came) error is same h = absurd is
  insertion_refused (Err f) error is same h = subst (λ z. IsAnswer (add s e now) (Err z) s (staying p image)) (sym is) (as_refused error h) where
    as_refused : (error : ChangeError) → IsLazyDecision p image e (add s e now) (Err error) → IsAnswer (add s e now) (Err error) s (staying p image)
    as_refused (errors.Refused why) h = (ap (λ z. z.0) (sym h), ap (λ z. z.1) (sym h))
    as_refused errors.Memory h = same

  -- If something is done, the call returns it.
  pub insertion_done : (t : State) (decision : Decision) (came : Came) → IsLazyDecision p image e (add s e now) (Ok decision)
      → addition_said came ≡ comes decision image.next → t ≡ staying p (set_left image e decision) → IsAnswer (add s e now) (Ok came) s t
  insertion_done t decision came h a b = (a ∙ ap (λ z. z.0) (sym h.1), b ∙ ap (λ z. z.1) (sym h.1))

-- ---- a refused change leaves the set
pub insertion_err : (s t : State) (e : NewElement) (now : ℕ) (r : Result Came ChangeError) → IsAnswer (add s e now) r s t → OnErr r (t ≡ s)
insertion_err s t e now (Ok came) h = tt
insertion_err s t e now (Err (errors.Refused why)) h = h.1 ∙ sym ((add_keeps s e now).all why h.0)
insertion_err s t e now (Err errors.Memory) h = h

pub creation_err : (a : Addition × State) (s t : State) (r : Result ℕ ChangeError) → IsCreation a r s t → OnErr r (t ≡ s)
creation_err a s t (Ok id) h = tt
creation_err a s t (Err (errors.Refused why)) h = h.1
creation_err a s t (Err errors.Memory) h = h

pub removal_err : (a : Option (ℕ × State)) (s t : State) (r : Result ℕ ChangeError) → IsRemoval a r s t → OnErr r (t ≡ s)
removal_err a s t (Ok id) h = tt
removal_err a s t (Err (errors.Refused why)) h = h.2
removal_err a s t (Err errors.Memory) h = h

pub flush_of : (s t : State) (r : Result ℕ NoMemory) → IfOk r (λ n. (n ≡ length s.elements) × (t ≡ cleared s)) → OnErr r (t ≡ s) → IsFlush r s t
flush_of s t (Ok n) h k = h
flush_of s t (Err e) h k = k
