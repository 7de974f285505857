-- What a change of one set keeps, and what came of it.
use Rattle.std.proofs.Common.{◌≡◌, refl, sym, ◌∙◌, ap, ℕ, zero, suc, List, [], ◌∷◌, Option, Some, None, Result, Err, subst, slice_get, slice_set, map, option_map}
use Rattle.set_model.specs.declared.element.NewElement.{NewElement}
use Rattle.set_model.specs.declared.report.Why.{Why}
use Rattle.set_model.specs.declared.script.Verb.{Verb}
use Rattle.set_model.specs.declared.script.Verb.TheVariants.{Add, Create, Delete, Destroy}
use Rattle.set_model.specs.SetState.{State, Addition, New, Already, Renewed, Refused, add, exact_place, element_at, without_at}
use Rattle.set_model.specs.Control.{as_added, as_created, as_deleted, as_destroyed, changed_set}
use Rattle.pipapo_image.specs.declared.answers.ChangeError.{ChangeError}
use Rattle.pipapo_image.specs.declared.answers.ChangeError.TheVariants as errors
use Rattle.pipapo_image.proofs.AddKeeps.{KeepsSet, add_keeps}
use Rattle.set_space.specs.Answers.{IsCreation}
use Rattle.packet_pool.specs.Running.{HasCome}

-- A set has the kinds and the size of another.
pub record IsAlike (s t : State) : Type 0 where
  pub kinds : t.kinds ≡ s.kinds
  pub size : t.size ≡ s.size

-- A change leaves the set's kinds and size, and if it is refused the whole set.
module _ (s : State) (e : NewElement) (now : ℕ) where
  record Keeps (x : Option Why × State) : Type 0 where
    alike : IsAlike s x.1
    all : (why : Why) → x.0 ≡ Some why → x.1 ≡ s

  left : (x : Option Why × State) → x.1 ≡ s → Keeps x
  left x e = record { alike = record { kinds = ap (λ (t : State). t.kinds) e; size = ap (λ (t : State). t.size) e }; all = λ why h. e }

  made : (t : State) → IsAlike s t → Keeps (None, t)
  made t e = record { alike = e; all = λ why h. absurd (cc h) }

  by_addition : (a : Addition) (t : State) → KeepsSet s (a, t) → Keeps (as_added (a, t)) × Keeps (as_created s (a, t))
  by_addition (New id) t k = let e : IsAlike s t = record { kinds = k.kinds; size = k.size } in (made t e, made t e)
  by_addition (Already id) t k = (made t (record { kinds = k.kinds; size = k.size }), left _ refl)
  by_addition (Renewed id) t k = (made t (record { kinds = k.kinds; size = k.size }), left _ refl)
  by_addition (Refused why) t k = (left _ (sym (k.all why refl)), left _ refl)

  by_place : (o : Option ℕ) → let r : Option (ℕ × State) = option_map (λ i. ((element_at s i).id, without_at s i)) o in Keeps (as_deleted s r) × Keeps (as_destroyed s r)
  by_place (Some i) = (made _ (record { kinds = refl; size = refl }), made _ (record { kinds = refl; size = refl }))
  by_place None = (left _ refl, made _ (record { kinds = refl; size = refl }))

  change_keeps : (verb : Verb) → Keeps (changed_set verb s e now)
  change_keeps Add = let a = add s e now in (by_addition a.0 a.1 (add_keeps s e now)).0
  change_keeps Create = let a = add s e now in (by_addition a.0 a.1 (add_keeps s e now)).1
  change_keeps Delete = (by_place (exact_place s e.parts now)).0
  change_keeps Destroy = (by_place (exact_place s e.parts now)).1

  pub change_alike : (verb : Verb) → IsAlike s (changed_set verb s e now).1
  change_alike verb = (change_keeps verb).alike

  pub refusal_keeps : (verb : Verb) (why : Why) → (changed_set verb s e now).0 ≡ Some why → (changed_set verb s e now).1 ≡ s
  refusal_keeps verb why h = (change_keeps verb).all why h

-- a creation that was refused for a cause
pub refused_creation : (s t : State) (e : NewElement) (now : ℕ) (error : ChangeError) (why : Why) → error ≡ errors.Refused why → IsCreation (add s e now) (Err error) s t
    → HasCome (as_created s (add s e now)) (Some why) t
refused_creation s t e now error why is given =
    let came : IsCreation (add s e now) (Err (errors.Refused why)) s t = subst (λ x. IsCreation (add s e now) (Err x) s t) is given in
    record { answer = sym came.0; leaves = came.1 ∙ sym (refusal_keeps s e now Create why came.0) }

-- what holds of the sets one by one, if one of them is changed and it still holds of that one
pub set_same : {X : Type 0} (f : State → X) (sets : List State) (i : ℕ) (s t : State) → slice_get sets i ≡ Some s → f t ≡ f s → map f (slice_set sets i t) ≡ map f sets
set_same f [] i s t h e = absurd (cc h)
set_same f (x ∷ xs) zero s t h e = let is : x ≡ s = cc h in ap (λ k. k ∷ map f xs) (e ∙ ap f (sym is))
set_same f (x ∷ xs) (suc i) s t h e = ap (λ r. f x ∷ r) (set_same f xs i s t h e)
