-- After an insertion that is accepted, a lookup of the start key finds the element.
use Rattle.std.proofs.Common.{◌≡◌, refl, sym, ◌∙◌, ap, subst, ℕ, ◌<◌, List, length, length-set, get_or-set_same, Some, Result, Ok, Err, slice_get, slice_set, arith}
use Rattle.std.specs.Prelude.{IfOk}
use Rattle.std.proofs.lemmas.Option.{slice_get_within, get_or_from_slice_get}
use Rattle.set_model.specs.declared.element.NewElement.{NewElement}
use Rattle.set_model.specs.SetState.{State, add}
use Rattle.pipapo_image.specs.declared.answers.Added.{Added}
use Rattle.pipapo_image.specs.declared.answers.Added.TheVariants.{New, Already, Renewed}
use Rattle.pipapo_image.specs.declared.answers.ChangeError.{ChangeError}
use Rattle.pipapo_image.specs.Image.Accepted.{accepted_id, IsShown}
use Rattle.pipapo_image.specs.Image.Insert.{IsAnswer, addition_said}
use Rattle.pipapo_image.proofs.AcceptedLaws.{shows-accepted}
use Rattle.set_space.specs.Open.{Open, FitsSet, IsChange}
use Rattle.gen_publish.specs.Accepted.{id_of, ShowsElement}

said_id : (came : Added) → accepted_id (addition_said came) ≡ Some (id_of came)
said_id (New id) = refl
said_id (Already id) = refl
said_id (Renewed id) = refl

-- the state that was put at a place
placed : (sets : List State) (set : ℕ) (left t : State) → slice_get (slice_set sets set left) set ≡ Some t → t ≡ left
placed sets set left t at =
    let within : set < length sets = omega (arith, length-set sets set left, slice_get_within (slice_set sets set left) set t at) in
    sym (get_or_from_slice_get (slice_set sets set left) set t t at) ∙ get_or-set_same sets set left t within

pub shows_element : (old new : Open) (set now : ℕ) (e : NewElement) (r : Result Added ChangeError) → FitsSet old set e.parts → IsChange (λ s t. IsAnswer (add s e now) r s t) old set new → IfOk r (ShowsElement new set e now)
shows_element old new set now e (Err error) fits change = tt
shows_element old new set now e (Ok came) fits change = λ t at fresh.
    let s = change.state in
    let same : t ≡ change.left = placed old.sets set change.left t (sym (ap (λ (w : Open). slice_get w.sets set) change.others) ∙ at) in
    let shown : IsShown (add s e now).1 e.parts now (id_of came) = shows-accepted s e now (id_of came) (fits s change.at) fresh (sym (ap accepted_id change.changed.0) ∙ said_id came) in
    subst (λ (z : State). IsShown z e.parts now (id_of came)) (sym (same ∙ change.changed.1)) shown
