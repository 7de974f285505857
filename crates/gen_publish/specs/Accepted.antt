-- An insertion that is accepted: a lookup of its start key finds its element.
use Rattle.std.specs.Prelude.{◌≡◌, ℕ, true, Some, slice_get}
use Rattle.set_model.specs.declared.element.NewElement.{NewElement}
use Rattle.set_model.specs.Expiry.{lives}
use Rattle.set_model.specs.SetState.{State}
use Rattle.pipapo_image.specs.declared.answers.Added.{Added}
use Rattle.pipapo_image.specs.declared.answers.Added.TheVariants.{New, Already, Renewed}
use Rattle.pipapo_image.specs.Image.Accepted.{IsShown}
use Rattle.set_space.specs.Open.{Open}

-- the id of the element that came, was there or was renewed
abbrev pub id_of : Added → ℕ
id_of (New id) = id
id_of (Already id) = id
id_of (Renewed id) = id

-- If the element's expiry hasn't come, a lookup of its start key in the set at a place finds it.
abbrev pub ShowsElement : Open → ℕ → NewElement → ℕ → Added → Type 0
ShowsElement w set e now came = (s : State) → slice_get w.sets set ≡ Some s → lives e.expiry now ≡ true → IsShown s e.parts now (id_of came)
